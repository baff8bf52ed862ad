-- Laws of the weave: its turns, that every turn finds a request left, and that no task's requests are taken twice.
-- Assumes nothing.
use mathlib.Core.Path.{◌≡◌, refl, sym, ◌∙◌, ap}
use Prim.Native.Nat.{ℕ, zero, suc, ◌+◌, ◌≤◌, ◌<◌}
use native.Mathlib.Omega.{arith}
use native.Mathlib.Nat.{le_refl}
use native.Mathlib.Decide.{ℕ_discrete}
use lib.Dec.{eqb}
use borrow.Author.Tests.{ltb-true, ltb-false, eq-eqb, ne_eqb}
use Rattle.laws.specs.Sums.{sum, only}
use Rattle.laws.specs.Search.{Found, at, nowhere, place_or}
use Rattle.laws.proofs.Cases.{below_suc}
use Rattle.laws.proofs.SumLaws.{sum_zero, sum_suc, sum_cong, sum_mono}
use Rattle.laws.proofs.SumParts.{sum_tight}
use Rattle.laws.proofs.TallyNext.{tally_shares}
use Rattle.model.specs.Task.{Table}
use Rattle.model.specs.Request.{of_task}
use Rattle.model.specs.Machine.{pick}
use Rattle.model.specs.Weave.{Runs, earliest, some_left, earlier, foremost, taken_by, next_at, weave}
use Rattle.model.proofs.PickLeast.{LeastKey, PickedLeast, pick_least}

module _ (table : Table) (runs : Runs) where
  -- the task of request i
  abbrev pub task_at : ℕ → ℕ
  task_at i = foremost table runs (taken_by table runs i)

  -- ---- the equations

  pub taken_start : (k : ℕ) → taken_by table runs 0 k ≡ 0
  unfolding taken_by
  taken_start k = refl

  pub taken_turn : (i k : ℕ) → taken_by table runs (suc i) k ≡ taken_by table runs i k + only (eqb (task_at i) k) 1
  unfolding taken_by
  taken_turn i k = refl

  pub taken_here : (i k : ℕ) → task_at i ≡ k → taken_by table runs (suc i) k ≡ taken_by table runs i k + 1
  taken_here i k here = taken_turn i k ∙ rw (eq-eqb (task_at i) k here)

  pub taken_other : (i k : ℕ) → (task_at i ≡ k → ⊥) → taken_by table runs (suc i) k ≡ taken_by table runs i k
  taken_other i k other = taken_turn i k ∙ rw (ne_eqb (task_at i) k other) (omega arith)

  pub weave_count : (weave table runs).count ≡ sum table.tasks runs.many
  unfolding weave
  weave_count = refl

  pub weave_request : (i : ℕ)
      → (weave table runs).request i ≡ earliest table runs (task_at i) (taken_by table runs i (task_at i))
  unfolding weave next_at
  weave_request i = refl

  pub weave_task : (i : ℕ) → ((weave table runs).request i).task ≡ task_at i
  weave_task i = ap (λ r. r.task) (weave_request i)

  -- what is taken is what stands in the list
  pub taken_is : (i k : ℕ) → taken_by table runs i k ≡ of_task (weave table runs) k i
  taken_is zero k = taken_start k ∙ sym (sum_zero _)
  taken_is (suc i) k =
      omega (
        arith,
        taken_turn i k,
        taken_is i k,
        ap (λ (j : ℕ). only (eqb j k) 1) (weave_task i),
        sum_suc i (λ j. only (eqb ((weave table runs).request j).task k) 1),
      )

  -- ---- every turn finds a request

  -- the arrival of each task's next request
  abbrev pub next_arrival : (ℕ → ℕ) → ℕ → ℕ
  next_arrival taken k = (earliest table runs k (taken k)).arrival

  -- the task that is chosen has one left, the earliest of all, that of the lower task at equal arrivals
  abbrev pub Chosen : (ℕ → ℕ) → Type 0
  Chosen taken =
      LeastKey (some_left table runs taken) (next_arrival taken) table.tasks (foremost table runs taken)

  chosen_if : (taken : ℕ → ℕ) → sum table.tasks taken < sum table.tasks runs.many → Chosen taken
  unfolding foremost
  chosen_if taken more =
      which (pick (some_left table runs taken) (earlier table runs taken) table.tasks)
      (pick_least (some_left table runs taken) (next_arrival taken) table.tasks)
    where
      which : (r : Found) → PickedLeast (some_left table runs taken) (next_arrival taken) table.tasks r
          → LeastKey (some_left table runs taken) (next_arrival taken) table.tasks (place_or 0 r)
      which (at k) least = least
      which nowhere none =
          absurd (omega (
            arith,
            more,
            sum_mono table.tasks runs.many taken (λ k inside. ltb-false (taken k) (runs.many k) (none k inside)),
          ))

  taken_sum : (i : ℕ) → ((j : ℕ) → j < i → task_at j < table.tasks) → sum table.tasks (taken_by table runs i) ≡ i
  taken_sum i known =
      sum_cong table.tasks (taken_by table runs i) (λ k. of_task (weave table runs) k i) (λ k inside. taken_is i k)
      ∙ tally_shares table.tasks i (λ j. ((weave table runs).request j).task)
      (λ j less. omega (arith, weave_task j, known j less))

  chosen_before : (i : ℕ) → i ≤ sum table.tasks runs.many → (j : ℕ) → j < i → Chosen (taken_by table runs j)
  chosen_before zero within = λ j less. absurd (omega arith)
  chosen_before (suc i) within =
      let rest = chosen_before i (omega arith) in
      below_suc (λ j. Chosen (taken_by table runs j)) i rest
      (chosen_if (taken_by table runs i) (omega (arith, taken_sum i (λ j less. (rest j less).inside))))

  pub weave_chosen : (i : ℕ) → i < (weave table runs).count → Chosen (taken_by table runs i)
  weave_chosen i less = chosen_before (suc i) (omega (arith, weave_count)) i (omega arith)

  pub foremost_lt : (i : ℕ) → i < (weave table runs).count
      → foremost table runs (taken_by table runs i) < table.tasks
  foremost_lt i less = (weave_chosen i less).inside

  pub foremost_left : (i : ℕ) → i < (weave table runs).count
      → taken_by table runs i (task_at i) < runs.many (task_at i)
  foremost_left i less = ltb-true _ _ (weave_chosen i less).passes

  taken_most : (i k : ℕ) → i ≤ (weave table runs).count → taken_by table runs i k ≤ runs.many k
  taken_most zero k within = omega (arith, taken_start k)
  taken_most (suc i) k within =
      elim (ℕ_discrete (task_at i) k) [
        | yes here ↦ omega (
          arith,
          taken_here i k here,
          ap (taken_by table runs i) here,
          ap runs.many here,
          foremost_left i within,
        )
        | no other ↦ omega (arith, taken_other i k other, taken_most i k (omega arith))
      ]

  -- at the end every task's requests are taken
  pub taken_all : (k : ℕ) → k < table.tasks → taken_by table runs (weave table runs).count k ≡ runs.many k
  taken_all =
      let end = (weave table runs).count in
      sum_tight table.tasks (taken_by table runs end) runs.many
      (λ k inside. taken_most end k (le_refl end)) (taken_sum end foremost_lt ∙ weave_count)
