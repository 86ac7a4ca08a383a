-- The names of classes in words, and by their bytes in a report.
use Rattle.std.specs.Prelude.{ℕ, List, codes, if◌then◌else◌, ◌==◌}
use Rattle.classes.specs.declared.Name.{Name}
use Rattle.classes.specs.declared.Name.TheVariants.{Unreachable, Irrelevant, Heavy, Balanced, Unbalanced, Bounded, Unbounded}

-- the name of a byte: the bytes of names are 1 to 7, and every other reads as unbounded
abbrev pub name_by_number : ℕ → Name
name_by_number n =
    if n == 1 then Unreachable
    else (if n == 2 then Irrelevant
    else (if n == 3 then Heavy
    else (if n == 4 then Balanced
    else (if n == 5 then Unbalanced
    else (if n == 6 then Bounded
    else Unbounded)))))

-- its word
abbrev pub name_word : Name → List ℕ
name_word Unreachable = codes "unreachable"
name_word Irrelevant = codes "irrelevant"
name_word Heavy = codes "heavy"
name_word Balanced = codes "balanced"
name_word Unbalanced = codes "unbalanced"
name_word Bounded = codes "bounded"
name_word Unbounded = codes "unbounded"
