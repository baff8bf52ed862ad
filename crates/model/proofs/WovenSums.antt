-- A sum over the requests of a woven list is the sum of the tasks' own sums. Before request i it is the sum of what
-- each task has had until then; every request adds itself to its task's.
-- Assumes nothing.
use mathlib.Core.Path.{◌≡◌, refl, sym, ◌∙◌, ap}
use Prim.Native.Nat.{ℕ, zero, suc, ◌+◌, ◌≤◌, ◌<◌}
use native.Mathlib.Nat.{le_refl}
use native.Mathlib.Numerals.{add-one}
use native.Mathlib.Omega.{arith}
use lib.Dec.{eqb}
use borrow.Author.Tests.{eq-eqb, ne_eqb}
use Rattle.laws.specs.Sums.{sum}
use Rattle.laws.proofs.SumLaws.{sum_zero, sum_suc, sum_none, sum_cong}
use Rattle.laws.proofs.SumParts.{sum_raised}
use Rattle.laws.proofs.TallyLaws.{tally_passed, tally_failed}
use Rattle.model.specs.Task.{Table}
use Rattle.model.specs.Request.{Request, Requests, of_task}
use Rattle.model.specs.Weave.{Runs, earliest, Woven}

module _ {table : Table} {runs : Runs} {list : Requests} (woven : Woven table runs list) (f : Request → ℕ) where
  -- the first n requests of task k
  abbrev first : ℕ → ℕ → ℕ
  first k n = sum n (λ m. f (earliest table runs k m))

  -- what task k has in the list before request i
  abbrev share : ℕ → ℕ → ℕ
  share i k = first k (of_task list k i)

  module _ (i : ℕ) (inside : i < list.count) where
    abbrev own : ℕ
    own = (list.request i).task

    raised : share (suc i) own ≡ share i own + f (list.request i)
    raised =
        ap (first own) (tally_passed (λ j. eqb (list.request j).task own) i (eq-eqb own own refl) ∙ add-one _)
        ∙ sum_suc (of_task list own i) (λ m. f (earliest table runs own m))
        ∙ ap (λ (r : Request). share i own + f r) (sym (woven.in_turn i inside))

    others : (k : ℕ) → (k ≡ own → ⊥) → share (suc i) k ≡ share i k
    others k other =
        ap (first k) (tally_failed (λ j. eqb (list.request j).task k) i (ne_eqb own k (λ same. other (sym same))))

  so_far : (i : ℕ) → i ≤ list.count → sum i (λ j. f (list.request j)) ≡ sum table.tasks (share i)
  so_far zero some =
      sum_zero (λ j. f (list.request j)) ∙ sym (sum_none table.tasks (share 0) (λ k inside. none k))
    where
      none : (k : ℕ) → share 0 k ≡ 0
      none k = ap (first k) (sum_zero _) ∙ sum_zero _
  so_far (suc i) some =
      omega (
        arith,
        sum_suc i (λ j. f (list.request j)),
        so_far i (omega arith),
        sum_raised table.tasks (own i some) (f (list.request i)) (share i) (share (suc i)) (woven.known i some)
            (raised i some) (λ k inside. others i some k),
      )

  pub woven_sum : sum list.count (λ i. f (list.request i))
      ≡ sum table.tasks (λ k. sum (runs.many k) (λ n. f (earliest table runs k n)))
  woven_sum =
      so_far list.count (le_refl list.count)
      ∙ sum_cong table.tasks (share list.count) (λ k. first k (runs.many k))
      (λ k inside. ap (first k) (woven.all k inside))
