-- How the code holds rows, moments and answers; and a literal, so bound, as a row of bytes, with a test of which facts it is about that
-- lists no facts. That it says what the facts of the literal over the chosen objects say is proved in proofs/Patterns. Assumes nothing.
use Rattle.std.specs.Prelude.{◌≡◌, Bool, cond, not, ◌&&◌, List, ◌∷◌, ◌++◌, map, ℕ, ◌-◌, eqb, length, replicate, Option, is_none}
use Rattle.std.specs.Option.{option_or}
use Rattle.records.specs.Lists.{In}
use Rattle.literals.specs.declared.Moment.{Moment}
use Rattle.literals.specs.declared.Moment.TheVariants.{Start, End}
use Rattle.literals.specs.declared.Object.{Object}
use Rattle.literals.specs.declared.Argument.{Argument}
use Rattle.literals.specs.declared.Argument.TheVariants.{Variable as bound, Every}
use Rattle.literals.specs.Domain.{Atom, Fact, Domain, arity}
use Rattle.literals.specs.Decode.{byte, max_arguments}
use Rattle.literals.specs.Held.{arguments_meet}
use Rattle.classes.specs.declared.Name.{Name}
use Rattle.verdict.specs.declared.Judgement.{Judgement}
use Rattle.verdict.specs.declared.Spot.{Spot}
use Rattle.verdict.specs.declared.Summary.{Summary}
use Rattle.verdict.specs.Decision.{Row}
use Rattle.verdict.specs.Judged.{Answer}
use Rattle.verdict.specs.Binding.{Binding, value_of}

-- ---- rows, moments, answers

abbrev pub judgement_of : Answer → Judgement
judgement_of a = record { number = a.number; first = a.first; second = a.second; third = a.third }

abbrev pub moment_by : ℕ → Moment
moment_by n = cond (eqb n 0) Start End

-- the row of a name: of the class j of the action i at a moment, which is a journey's end or not
abbrev pub row_for : ℕ → ℕ → Moment → Name → Bool → Row
row_for i j m n e = record { action = i; class = j; moment = m; name = n; journey_end = e }

-- the one spot, or where there is none the other
abbrev pub spot_else : Option Spot → Option Spot → Option Spot
spot_else = option_or

abbrev pub is_nowhere : Option Spot → Bool
is_nowhere = is_none

-- a summary that has nothing for the decision
abbrev pub is_silent : Summary → Bool
is_silent s = not s.endless &&
    (is_nowhere s.heavy && (is_nowhere s.unbalanced && (is_nowhere s.unbounded && is_nowhere s.bounded)))

-- ---- rows "in the witness's form"

-- "relation, arity, arguments, FF to fill", each argument as a byte
abbrev pub atom_row : {A : Type 0} → (A → ℕ) → Atom A → List ℕ
atom_row number f = f.rel ∷ length f.args ∷ (map number f.args ++ replicate (max_arguments - length f.args) 255)

-- that of a fact
abbrev pub fact_row : Fact → List ℕ
fact_row f = atom_row (λ (o : Object). o.0) f

-- the byte of an argument: its object, or FF for every object
abbrev pub argument_byte : Binding → Argument → ℕ
argument_byte b (bound v) = (value_of b v).0
argument_byte b Every = 255

-- that of a literal, so bound: without FF among its arguments it is the row of its fact
unfoldable pub pattern_row : Binding → Atom Argument → List ℕ
pattern_row b p = atom_row (argument_byte b) p

-- ---- "this literal, so bound, is about this fact"

-- two rows meet: the same relation, and at each place the same byte, or FF in one of them. Of a literal's row and a fact's: the literal
-- stands for the fact. Of two literals' rows: they stand for a fact in common
abbrev pub patterns_meet : List ℕ → List ℕ → Bool
patterns_meet p q = eqb (byte p 0) (byte q 0) && arguments_meet p q

-- ---- "whose facts and bindings use no objects but those chosen"

-- a fact with the arity of its relation, over the chosen objects
pub record FactOver (D : Domain) (objs : List Object) (f : Fact) : Type 0 where
  pub sized : length f.args ≡ arity D f.rel
  pub over : (o : Object) → In o f.args → In o objs
