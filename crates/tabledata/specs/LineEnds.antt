-- A cell's characters without the rule on line ends, as 01 had them.
use Rattle.std.specs.Prelude.{ℕ, cond, List, [], ◌++◌, ◌∷◌, eqb}
use Rattle.table.specs.Bytes.{byte}
use Rattle.table.specs.Result.{Result, bad}
use Rattle.tabledata.specs.TableData.{Step, Where, emit, emitted, expanded, follow, goes, plain, reference, tag_begins}

-- "A carriage return in the text is read as itself."
unfoldable pub step_as_itself : Where → ℕ → Step
step_as_itself plain b = cond (eqb b (byte "<")) tag_begins (cond (eqb b (byte "&")) (goes (reference [])) (emit b))
step_as_itself (reference name) b = cond (eqb b (byte ";")) (emitted (expanded name)) (goes (reference (name ++ (b ∷ []))))

unfoldable pub characters_as_themselves : Where → List ℕ → Result ℕ (List ℕ × List ℕ)
characters_as_themselves w [] = bad 10
characters_as_themselves w (b ∷ s) = follow (step_as_itself w b) (b ∷ s) (λ v. characters_as_themselves v s)
