-- What is printed of a name, where the bytes that a writer holds are known.
use Rattle.std.specs.Prelude.{ℕ, List, [], ◌∷◌, ◌++◌, codes, decimal, replicate, if◌then◌else◌, ◌==◌}
use Rattle.literals.specs.Decode.{byte}
use Rattle.verdict.specs.Judged.{Answer, judged, report_after}

-- the name of a number, and the end of the line
abbrev pub name_line : ℕ → List ℕ
name_line n =
    if n == 1 then codes " unreachable\n"
    else (if n == 2 then codes " irrelevant\n"
    else (if n == 3 then codes " heavy\n"
    else (if n == 4 then codes " balanced\n"
    else (if n == 5 then codes " unbalanced\n"
    else (if n == 6 then codes " bounded\n"
    else codes " unbounded\n")))))

-- a row of a report: its action, its class, its moment, and the name
abbrev pub row_line : List ℕ → List ℕ
row_line row = ((((codes "row " ++ decimal (byte row 0)) ++ (codes " " ++ decimal (byte row 1))) ++ (codes " " ++ decimal (byte row 2))) ++ name_line (byte row 3))

-- the rows of a report, 4 bytes each: those before the first that was not filled (FF in its name's place)
abbrev pub row_lines : List ℕ → List ℕ
row_lines (a ∷ m ∷ c ∷ n ∷ report) = if n == 255 then [] else (row_line (a ∷ m ∷ c ∷ n ∷ []) ++ row_lines report)
row_lines _ = []

-- the line of a verdict: its number, and its places
abbrev pub verdict_line : Answer → List ℕ
verdict_line v =
    ((((codes "verdict " ++ decimal v.number) ++ (codes " " ++ decimal v.first)) ++ (codes " " ++ decimal v.second)) ++ (codes " " ++ decimal v.third)) ++ codes "\n"

-- what is listed of a file, judged with a report and a witness that nothing was written to
unfoldable pub listing : List ℕ → List ℕ
listing file =
    let report = replicate 32768 255 in
    let witness = replicate 520 255 in
    verdict_line (judged file report witness) ++ row_lines (report_after file report witness)
