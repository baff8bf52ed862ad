-- A list with the same requests as a woven one is woven: what is read back from bytes will be.
-- Assumes nothing.
use mathlib.Core.Path.{◌≡◌, sym, ◌∙◌, ap}
use Prim.Native.Nat.{ℕ, ◌≤◌, ◌<◌}
use native.Mathlib.Omega.{arith}
use native.Mathlib.Nat.{le_refl}
use lib.Dec.{eqb}
use Rattle.laws.specs.Sums.{only}
use Rattle.laws.proofs.SumLaws.{sum_cong}
use Rattle.model.specs.Task.{Table}
use Rattle.model.specs.Request.{Requests, Same, of_task}
use Rattle.model.specs.Weave.{Runs, Woven, earliest}
use Rattle.model.proofs.WovenLegal.{same_sorted}

-- two lists that agree below i
abbrev pub SameBelow : Requests → Requests → ℕ → Type 0
SameBelow a b i = (j : ℕ) → j < i → a.request j ≡ b.request j

pub of_task_same : (a b : Requests) (i : ℕ) → SameBelow a b i → (k : ℕ) → of_task a k i ≡ of_task b k i
of_task_same a b i agree k =
    sum_cong i (λ j. only (eqb (a.request j).task k) 1) (λ j. only (eqb (b.request j).task k) 1)
    (λ j less. ap (λ r. only (eqb r.task k) 1) (agree j less))

module _ {list other : Requests} (same : Same list other) where
  same_of_task : (k i : ℕ) → i ≤ other.count → of_task list k i ≡ of_task other k i
  same_of_task k i within = of_task_same list other i (λ j less. same.request_is j (omega arith)) k

  module _ {table : Table} {runs : Runs} (woven : Woven table runs other) where
    task_is : (i : ℕ) → i < other.count → (list.request i).task ≡ (other.request i).task
    task_is i within = ap (λ r. r.task) (same.request_is i within)

    in_turn : (i : ℕ) → i < other.count
        → list.request i ≡ earliest table runs (list.request i).task (of_task list (list.request i).task i)
    in_turn i within =
        same.request_is i within
        ∙ woven.in_turn i within
        ∙ sym (ap (λ k. earliest table runs k (of_task other k i)) (task_is i within))
        ∙ ap (earliest table runs (list.request i).task)
        (sym (same_of_task (list.request i).task i (omega arith)))

    all : (k : ℕ) → k < table.tasks → of_task list k list.count ≡ runs.many k
    all k inside =
        ap (of_task list k) same.count_is
        ∙ same_of_task k other.count (le_refl other.count)
        ∙ woven.all k inside

    pub same_woven : Woven table runs list
    same_woven =
        record {
          known = λ i less.
              let within : i < other.count = omega (arith, same.count_is) in
              omega (arith, task_is i within, woven.known i within);
          in_turn = λ i less. in_turn i (omega (arith, same.count_is));
          all = all;
          sorted = same_sorted same woven.sorted;
        }
