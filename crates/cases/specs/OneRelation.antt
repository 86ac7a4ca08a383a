-- Cases of the list of one-relation templates. Assumes nothing.
use Rattle.std.specs.Prelude.{◌≡◌, refl, List, [], ◌∷◌, ◌++◌, ℕ}
use Rattle.verdict.specs.Judged.{answer_at}
use Rattle.templates.specs.Templates.{list_file, list_after}
use Rattle.cases.specs.Written.{FF, relation, at_once, adds, deletes, lacks, component, closing, lent}
use Rattle.cases.specs.Samples.{m1, m11}

-- a relation with no argument: one template, its only place none
abbrev pub bare_flag : List ℕ
bare_flag = relation 0 ++ relation 1 ++ at_once 1 ++ adds (0 ∷ []) ++ component (0 ∷ []) ++ closing

-- near/2 is cleared in its second place: only near[0,FF] is left; cleared in both, none is
abbrev pub cleared : List ℕ
cleared = relation 2 ++ at_once 1 ++ deletes (0 ∷ 0 ∷ FF ∷ []) ++ component (0 ∷ 0 ∷ FF ∷ []) ++ closing

abbrev pub cleared_twice : List ℕ
cleared_twice =
    relation 1 ++ relation 2 ++ at_once 1 ++ deletes (1 ∷ 0 ∷ FF ∷ []) ++ lacks (1 ∷ FF ∷ 0 ∷ []) ++ component (0 ∷ 0 ∷ []) ++ closing

pub record OneRelation : Type 0 where
  -- at[0,1], at[FF,0], at[0,FF] and the same of out: M2's template is the third
  pub m1_answer : list_file m1 (lent 20) ≡ answer_at 0 18
  pub m1_memory : list_after m1 (lent 20)
      ≡ 0 ∷ FF ∷ 0 ∷ 0 ∷ 0 ∷ 42 ∷ 0 ∷ 1 ∷ 0 ∷ 1 ∷ FF ∷ 0 ∷ 1 ∷ 0 ∷ 42 ∷ 1 ∷ 1 ∷ 42 ∷ lent 2
  pub m1_short : list_file m1 (lent 17) ≡ answer_at 30 0
  pub m1_untouched : list_after m1 (lent 17) ≡ lent 17
  pub m11_answer : list_file m11 (lent 0) ≡ answer_at 10 0
  -- the action adds the flag: bounded; of the other relation no literal: no class, 0
  pub flag_memory : list_after bare_flag (lent 9) ≡ 0 ∷ FF ∷ 0 ∷ 1 ∷ FF ∷ 0 ∷ 1 ∷ 0 ∷ 0 ∷ []
  -- passed over: a key where a literal has FF
  pub cleared_memory : list_after cleared (lent 4) ≡ 0 ∷ 1 ∷ 0 ∷ lent 1
  pub cleared_twice_lem : list_after cleared_twice (lent 7) ≡ 0 ∷ FF ∷ 0 ∷ 0 ∷ 0 ∷ 0 ∷ lent 1

pub one_relation : OneRelation
unfolding list_file list_after
one_relation =
    record {
      m1_answer = refl;
      m1_memory = refl;
      m1_short = refl;
      m1_untouched = refl;
      m11_answer = refl;
      flag_memory = refl;
      cleared_memory = refl;
      cleared_twice_lem = refl;
    }
