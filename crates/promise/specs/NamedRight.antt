-- That every named number is what the rules give: document 01, "Numbers to hold it to".
-- Assumes nothing.
use Rattle.std.specs.Prelude.{◌≡◌, List, [], ◌∷◌, ℕ, ◌<◌, length, get_or}
use Rattle.laws.specs.Sums.{tabulate}
use Rattle.model.specs.Response.{value, higher_share}
use Rattle.table.specs.TableOf.{table_of}
use Rattle.promise.specs.Tables.{F}
use Rattle.promise.specs.Named.{Named, IsSaid, named}

-- the first values of the recurrence for a frame
abbrev pub values : List ℕ → ℕ → ℕ → ℕ → List ℕ
values s many k i = tabulate many (value (higher_share (table_of s) k) (((table_of s).task k).E i))

pub record NamedRight : Type 0 where
  -- every row of the table; `other` stands past its end
  pub rows : (i : ℕ) → i < length named → (other : Named) → IsSaid (get_or named i other)
  -- "Task 3 frame 0 goes 2, 8, 10, 13, 14"
  pub goes : values F 5 3 0 ≡ 2 ∷ 8 ∷ 10 ∷ 13 ∷ 14 ∷ []
