-- The machine tick by tick: at most one unit a tick, and only to a released, unfinished job that none such precedes.
-- Assumes nothing.
use mathlib.Core.Path.{◌≡◌, refl, sym, ◌∙◌}
use mathlib.Core.Bool.{true, false≢true}
use Prim.Native.Nat.{ℕ, suc, ◌+◌, ◌≤◌, ◌<◌}
use native.Mathlib.Omega.{arith}
use native.Mathlib.Decide.{ℕ_discrete}
use lib.Dec.{leb, ltb}
use borrow.Author.Tests.{leb-true, ltb-true, le-leb, lt-ltb, eq-eqb, ne_eqb}
use Rattle.laws.specs.Search.{Found, at, nowhere}
use Rattle.laws.proofs.Falling.{falling_mono}
use Rattle.laws.proofs.Every.{and_true_left, and_true_right}
use Rattle.model.specs.Jobs.{Jobs}
use Rattle.model.specs.Machine.{Order, Strict, ready, chosen, give, left_at}
use Rattle.model.specs.Tick.{Pending, Gives, OneUnit, idle, gives}
use Rattle.model.proofs.PickRight.{Picked, pick_right}

-- ---- any amounts left

module _ (jobs : Jobs) (t : ℕ) (left : ℕ → ℕ) where
  pub ready_is : (k : ℕ) → k < jobs.count → ready jobs t left k ≡ true → Pending jobs t left k
  ready_is k inside passes =
      let released = leb (jobs.release k) t in
      let undone = ltb 0 (left k) in
      record {
        inside = inside;
        released = leb-true _ _ (and_true_left released undone passes);
        undone = ltb-true _ _ (and_true_right released undone passes);
      }

  pub is_ready : (k : ℕ) → Pending jobs t left k → ready jobs t left k ≡ true
  is_ready k r = rw (le-leb _ _ r.released, lt-ltb _ _ r.undone)

-- one unit less at b, and nowhere else
module _ (left : ℕ → ℕ) where
  give_here : (b : ℕ) → 0 < left b → left b ≡ give (at b) left b + 1
  give_here b some = rw (eq-eqb b b refl) (omega arith)

  give_other : (b k : ℕ) → (k ≡ b → ⊥) → give (at b) left k ≡ left k
  give_other b k differ = rw (ne_eqb b k (λ e. differ (sym e))) (omega arith)

  pub give_falls : (r : Found) (k : ℕ) → give r left k ≤ left k
  give_falls (at b) k = omega arith
  give_falls nowhere k = omega arith

module _ (jobs : Jobs) (before : Order) (t : ℕ) (left : ℕ → ℕ) where
  give_unit : (r : Found) → Picked (ready jobs t left) before jobs.count r
      → OneUnit jobs before t left (give r left)
  give_unit nowhere none =
      idle (record {
        none = λ k r. false≢true (sym (none k r.inside) ∙ is_ready jobs t left k r);
        same = λ k. refl;
      })
  give_unit (at b) first =
      let here = ready_is jobs t left b first.inside first.passes in
      gives b (record {
        ready = here;
        none_before = λ j r. first.none_before j r.inside (is_ready jobs t left j r);
        one_less = give_here left b here.undone;
        others = give_other left b;
      })

  -- the machine's tick, from whatever is left
  pub one_unit : Strict before → OneUnit jobs before t left (give (chosen jobs before t left) left)
  one_unit strict =
      give_unit (chosen jobs before t left) (pick_right (ready jobs t left) before strict jobs.count)

-- the same amounts by another name
pub unit_as : {jobs : Jobs} {before : Order} {t : ℕ} {left next other : ℕ → ℕ} → ((k : ℕ) → other k ≡ next k)
    → OneUnit jobs before t left next → OneUnit jobs before t left other
unit_as named (idle rests) = idle (record { none = rests.none; same = λ k. named k ∙ rests.same k })
unit_as named (gives k given) =
    gives k
    (record {
      ready = given.ready;
      none_before = given.none_before;
      one_less = omega (arith, named k, given.one_less);
      others = λ j differ. named j ∙ given.others j differ;
    })

-- a job whose amount changed got the one unit
pub unit_changed : {jobs : Jobs} {before : Order} {t : ℕ} {left next : ℕ → ℕ} → OneUnit jobs before t left next
    → (k : ℕ) → (next k ≡ left k → ⊥) → Gives jobs before t left next k
unit_changed (idle rests) k changed = absurd (changed (rests.same k))
unit_changed (gives b given) k changed =
    elim (ℕ_discrete k b)
    [ yes same ↦ rw (sym same) at given | no differ ↦ absurd (changed (given.others k differ)) ]

-- ---- the machine from the jobs' amounts on

module _ (jobs : Jobs) (before : Order) where
  pub left_start : (k : ℕ) → left_at jobs before 0 k ≡ jobs.amount k
  unfolding left_at
  left_start k = refl

  pub left_step : (t k : ℕ) → left_at jobs before (suc t) k
      ≡ give (chosen jobs before t (left_at jobs before t)) (left_at jobs before t) k
  unfolding left_at
  left_step t k = refl

  left_falls : (t k : ℕ) → left_at jobs before (suc t) k ≤ left_at jobs before t k
  left_falls t k =
      let left = left_at jobs before t in
      rw (left_step t k) (give_falls left (chosen jobs before t left) k)

  pub left_mono : (t u k : ℕ) → t ≤ u → left_at jobs before u k ≤ left_at jobs before t k
  left_mono t u k = falling_mono (λ s. left_at jobs before s k) (λ s. left_falls s k) t u
