-- `Player::new` meets its contract. Assumes nothing.
use mathlib.Core.Path.{refl}
use Rattle.events.specs.Held.{open_of, waiting_of}
use Rattle.player.specs.Held.{player_of}
use Rattle.player.proofs.Player.new.Goals as goal

pub returns : goal.returns
unfolding player_of open_of waiting_of
returns c = refl
