-- There is one woven list only. Two of them that agree below i agree at i: else each has the other's request i later
-- on, and so each of the two stands before the other.
-- Assumes nothing.
use mathlib.Core.Path.{◌≡◌, refl, sym, ◌∙◌, ap, ap₂, subst}
use mathlib.Core.Logic.{inl, inr}
use Prim.Native.Nat.{ℕ, zero, suc, ◌≤◌, ◌<◌}
use native.Mathlib.Omega.{arith}
use native.Mathlib.Nat.{le_refl}
use native.Mathlib.Decide.{ℕ_discrete}
use lib.Dec.{eqb}
use borrow.Author.Tests.{eqb-true, eq-eqb}
use Rattle.laws.specs.Sums.{sum, only}
use Rattle.laws.proofs.Cases.{lt_or_le, lt_or_last, below_suc}
use Rattle.laws.proofs.SumLaws.{sum_cong, sum_longer}
use Rattle.laws.proofs.TallyLaws.{tally_passed}
use Rattle.laws.proofs.TallyNext.{NextPassing, tally_next, tally_shares}
use Rattle.model.specs.Task.{Table}
use Rattle.model.specs.Request.{Request, Requests, Same, Before, Sorted, of_task}
use Rattle.model.specs.Weave.{Runs, Woven, earliest}
use Rattle.model.proofs.WovenSame.{SameBelow, of_task_same}

-- ---- the order of requests

before_transitive : (x y z : Request) → Before x y → Before y z → Before x z
before_transitive x y z (inl less) (inl more) = inl (omega arith)
before_transitive x y z (inl less) (inr tie) = inl (omega (arith, tie.0))
before_transitive x y z (inr tie) (inl more) = inl (omega (arith, tie.0))
before_transitive x y z (inr tie) (inr next) = inr (tie.0 ∙ next.0, omega (arith, tie.1, next.1))

before_one_way : (x y : Request) → Before x y → Before y x → ⊥
before_one_way x y (inl less) (inl more) = omega arith
before_one_way x y (inl less) (inr tie) = omega (arith, tie.0)
before_one_way x y (inr tie) (inl more) = omega (arith, tie.0)
before_one_way x y (inr tie) (inr back) = omega (arith, tie.1, back.1)

-- from neighbours to any two
sorted_far : (list : Requests) → Sorted list → (i j : ℕ) → i < j → j < list.count
    → Before (list.request i) (list.request j)
sorted_far list sorted i zero less within = absurd (omega arith)
sorted_far list sorted i (suc j) less within =
    let next = sorted j (suc j) (omega arith) within in
    elim (lt_or_last i j less) [
      | inl sooner ↦ before_transitive (list.request i) (list.request j) (list.request (suc j))
          (sorted_far list sorted i j sooner (omega arith)) next
      | inr last ↦ subst (λ (i : ℕ). Before (list.request i) (list.request (suc j))) (sym last) next
    ]

-- ---- one woven list

module _ {table : Table} {runs : Runs} {list : Requests} (woven : Woven table runs list) where
  woven_count : list.count ≡ sum table.tasks runs.many
  woven_count =
      sym (tally_shares table.tasks list.count (λ i. (list.request i).task) woven.known)
      ∙ sum_cong table.tasks (λ k. of_task list k list.count) runs.many woven.all

  -- request i is one that its task makes
  pub woven_left : (i : ℕ) → i < list.count
      → of_task list (list.request i).task i < runs.many (list.request i).task
  woven_left i within =
      let k = (list.request i).task in
      omega (
        arith,
        tally_passed (λ j. eqb (list.request j).task k) i (eq-eqb k k refl),
        sum_longer (suc i) list.count (λ j. only (eqb (list.request j).task k) 1) within,
        woven.all k (woven.known i within),
      )

  -- it stands before the next request of each other task that has one left
  before_others : (i k : ℕ) → i < list.count → k < table.tasks → of_task list k i < runs.many k
      → ((list.request i).task ≡ k → ⊥) → Before (list.request i) (earliest table runs k (of_task list k i))
  before_others i k within inside left other =
      subst (Before (list.request i)) there (sorted_far list woven.sorted i place later found.below)
    where
      found : NextPassing (λ j. eqb (list.request j).task k) i list.count
      found = tally_next (λ j. eqb (list.request j).task k) i list.count (omega (arith, woven.all k inside))

      place : ℕ
      place = found.place

      task_is : (list.request place).task ≡ k
      task_is = eqb-true (list.request place).task k found.passes

      last_is : place ≤ i → i ≡ place
      last_is last = omega (arith, found.from)

      later : i < place
      later =
          elim (lt_or_le i place) [
            | inl less ↦ less
            | inr last ↦ absurd (other (ap (λ j. (list.request j).task) (last_is last) ∙ task_is))
          ]

      there : list.request place ≡ earliest table runs k (of_task list k i)
      there =
          woven.in_turn place found.below
          ∙ ap (λ l. earliest table runs l (of_task list l place)) task_is
          ∙ ap (earliest table runs k) found.none

-- ---- two woven lists

module _ {table : Table} {runs : Runs} {a b : Requests} (one : Woven table runs a) (other : Woven table runs b) where
  module _ (i : ℕ) (within : i < a.count) (inside : i < b.count) (agree : SameBelow a b i) where
    apart : ((a.request i).task ≡ (b.request i).task → ⊥) → Before (a.request i) (b.request i)
    apart differ =
        let k = (b.request i).task in
        let so_far = of_task_same a b i agree k in
        subst (Before (a.request i)) (ap (earliest table runs k) so_far ∙ sym (other.in_turn i inside))
        (before_others one i k within (other.known i inside) (omega (arith, so_far, woven_left other i inside)) differ)

    together : (a.request i).task ≡ (b.request i).task → a.request i ≡ b.request i
    together same =
        one.in_turn i within
        ∙ ap₂ (earliest table runs) same (ap (λ k. of_task a k i) same ∙ of_task_same a b i agree (b.request i).task)
        ∙ sym (other.in_turn i inside)

module _ {table : Table} {runs : Runs} {a b : Requests} (one : Woven table runs a) (other : Woven table runs b) where
  counts : a.count ≡ b.count
  counts = woven_count one ∙ sym (woven_count other)

  agree_at : (i : ℕ) → i < b.count → SameBelow a b i → a.request i ≡ b.request i
  agree_at i inside agree =
      let within : i < a.count = omega (arith, counts) in
      elim (ℕ_discrete (a.request i).task (b.request i).task) [
        | yes same ↦ together one other i within inside agree same
        | no differ ↦
            absurd (before_one_way (a.request i) (b.request i) (apart one other i within inside agree differ)
            (apart other one i inside within (λ j less. sym (agree j less)) (λ same. differ (sym same))))
      ]

  agree_below : (i : ℕ) → i ≤ b.count → SameBelow a b i
  agree_below zero within = λ j less. absurd (omega arith)
  agree_below (suc i) within =
      let rest = agree_below i (omega arith) in
      below_suc (λ j. a.request j ≡ b.request j) i rest (agree_at i within rest)

  pub woven_one : Same a b
  woven_one = record { count_is = counts; request_is = agree_below b.count (le_refl b.count) }
