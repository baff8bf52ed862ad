-- Requests of each task as early as they may come are legal, in whatever list they are all in turn; and a list that is
-- the same request by request is as legal and as sorted.
-- Assumes nothing.
use mathlib.Core.Path.{◌≡◌, sym, ◌∙◌, ap, subst}
use Prim.Native.Nat.{ℕ, suc, ◌+◌, ◌<◌}
use native.Mathlib.Nat.{le_refl, lt_trans}
use native.Mathlib.Numerals.{add-one}
use native.Mathlib.Omega.{arith}
use lib.Dec.{eqb}
use borrow.Author.Tests.{eq-eqb, ne_eqb}
use Rattle.laws.proofs.TallyLaws.{tally_last}
use Rattle.model.specs.Task.{Table, ProperTable}
use Rattle.model.specs.Request.{Request, Requests, Same, of_task, HasFrame, Next, Follows, Legal, Sorted}
use Rattle.model.specs.Weave.{Runs, earliest, Woven}
use Rattle.model.proofs.CyclicLaws.{frame_lt, frame_next}
use Rattle.model.proofs.RunLaws.{earliest_run}

-- of one task, the next request has one more of the task's before it
next_turn : {list : Requests} {i j : ℕ} → Next list i j
    → of_task list (list.request j).task j ≡ of_task list (list.request j).task i + 1
next_turn {list} {i} {j} next =
    tally_last (λ m. eqb (list.request m).task (list.request j).task) i j next.earlier (eq-eqb _ _ next.same)
    (λ m after before. ne_eqb _ _ (next.between m after before))

-- the earliest next request follows
earliest_follows : (table : Table) (runs : Runs) (k n : ℕ)
    → Follows table (earliest table runs k n) (earliest table runs k (n + 1))
earliest_follows table runs k n =
    rw (add-one n)
    (record {
      frame_is = sym (frame_next (table.task k) (runs.start k) n);
      not_soon = earliest_run (table.task k) (runs.start k) (suc (suc n)) (runs.from k) n (le_refl (suc (suc n)));
    })

-- request i, where its task is known to be k
woven_at : {table : Table} {runs : Runs} {list : Requests} → Woven table runs list → (i k : ℕ) → i < list.count
    → (list.request i).task ≡ k → list.request i ≡ earliest table runs k (of_task list k i)
woven_at {table} {runs} {list} woven i k inside of =
    subst (λ (k : ℕ). list.request i ≡ earliest table runs k (of_task list k i)) of (woven.in_turn i inside)

module _ {table : Table} {runs : Runs} {list : Requests} (good : ProperTable table)
    (woven : Woven table runs list) where
  woven_known : (i : ℕ) → i < list.count → HasFrame table (list.request i).task (list.request i).frame
  woven_known i inside =
      let k = (list.request i).task in
      let known = woven.known i inside in
      record {
        task = known;
        frame =
            subst (λ (f : ℕ). f < (table.task k).count) (sym (ap (λ (r : Request). r.frame) (woven.in_turn i inside)))
            (frame_lt (table.task k) (good.proper k known).some (runs.start k) (of_task list k i));
      }

  woven_follows : (i j : ℕ) → j < list.count → Next list i j → Follows table (list.request i) (list.request j)
  woven_follows i j inside next =
      rw (woven_at woven i k (lt_trans next.earlier inside) next.same, later)
      (earliest_follows table runs k (of_task list k i))
    where
      k : ℕ
      k = (list.request j).task

      later : list.request j ≡ earliest table runs k (of_task list k i + 1)
      later = woven.in_turn j inside ∙ ap (earliest table runs k) (next_turn next)

  pub woven_legal : Legal table list
  woven_legal = record { known = woven_known; follows = woven_follows }

-- ---- a list that is the same

module _ {list other : Requests} (same : Same list other) where
  within : (i : ℕ) → i < list.count → i < other.count
  within i inside = omega (arith, same.count_is)

  pub same_sorted : Sorted other → Sorted list
  same_sorted sorted i j next inside =
      let inside_too = within j inside in
      rw (same.request_is i (omega arith), same.request_is j inside_too) (sorted i j next inside_too)

  next_too : (i j : ℕ) → j < other.count → Next list i j → Next other i j
  next_too i j inside next =
      let at_i = same.request_is i (lt_trans next.earlier inside) in
      let at_j = same.request_is j inside in
      record {
        earlier = next.earlier;
        same = rw (at_i, at_j) at next.same;
        between = λ m after before.
            rw (same.request_is m (lt_trans before inside), at_j) at (next.between m after before);
      }

  pub same_legal : {table : Table} → Legal table other → Legal table list
  same_legal legal =
      record {
        known = λ i inside. rw (same.request_is i (within i inside)) (legal.known i (within i inside));
        follows = λ i j inside next.
            let inside_too = within j inside in
            rw (same.request_is i (lt_trans next.earlier inside_too), same.request_is j inside_too)
            (legal.follows i j inside_too (next_too i j inside_too next));
      }
