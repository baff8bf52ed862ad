-- The open work of a class: it is some job's, it is none before tick 0, and with what comes later it is all that is
-- left of the class.
-- Assumes nothing.
use mathlib.Core.Bool.{Bool, true, false, ◌&&◌, and-true}
use mathlib.Core.Path.{◌≡◌, refl, ◌∙◌}
use mathlib.Core.Logic.{inl, inr}
use Prim.Native.Nat.{ℕ, ◌+◌, ◌≤◌, ◌<◌}
use native.Mathlib.Omega.{arith}
use lib.Dec.{leb, ltb}
use borrow.Author.Tests.{ltb-true, le-leb, lt-leb, lt-ltb, le-ltb}
use Rattle.laws.specs.Sums.{sum, only}
use Rattle.laws.proofs.Cases.{lt_or_le}
use Rattle.laws.proofs.Every.{and_true_left, and_true_right}
use Rattle.laws.proofs.GateLaws.{only_most, only_through}
use Rattle.laws.proofs.SumLaws.{sum_cong, sum_+}
use Rattle.laws.proofs.SumParts.{sum_some}
use Rattle.model.specs.Jobs.{Jobs}
use Rattle.model.specs.Service.{Service, Class, came, open_work}
use Rattle.model.proofs.ServiceLaws.{whole}

-- what is released from q on is released before x, or from x on
came_one : (in_class : Bool) (q x a amount : ℕ) → q ≤ x
    → only (in_class && leb q a) amount
    ≡ only (in_class && (leb q a && ltb a x)) amount + only (in_class && leb x a) amount
came_one false q x a amount later = refl
came_one true q x a amount later =
    elim (lt_or_le a x) [
      | inl before ↦ simp (lt-ltb a x before, lt-leb x a before, and-true) (omega arith)
      | inr after ↦ simp (le-leb q a (omega arith), le-ltb a x after, le-leb x a after) (omega arith)
    ]

-- what a job has left is open, or the job is not released and is whole
left_one : (in_class : Bool) (t a left amount : ℕ) → (t ≤ a → left ≡ amount)
    → only in_class left ≡ only (in_class && ltb a t) left + only (in_class && leb t a) amount
left_one false t a left amount untouched = refl
left_one true t a left amount untouched =
    elim (lt_or_le a t) [
      | inl before ↦ simp (lt-ltb a t before, lt-leb t a before) (omega arith)
      | inr after ↦ simp (le-ltb a t after, le-leb t a after) (omega (arith, untouched after))
    ]

module _ {jobs : Jobs} (service : Service jobs) (class : Class) where
  -- the work of the class that is released at x or later
  abbrev pub later : ℕ → ℕ
  later x = sum jobs.count (λ k. only (class k && leb x (jobs.release k)) (jobs.amount k))

  -- what is left of the class
  abbrev pub rest : ℕ → ℕ
  rest t = sum jobs.count (λ k. only (class k) (service.left t k))

  -- a job whose work is open before tick t
  pub record OpenJob (t : ℕ) : Type 0 where
    pub job : ℕ
    pub inside : job < jobs.count
    pub in_class : class job ≡ true
    pub released : jobs.release job < t
    pub undone : 0 < service.left t job

  pub open_some : (t : ℕ) → 0 < open_work service class t → OpenJob t
  unfolding open_work
  open_some t some =
      let found = sum_some jobs.count _ some in
      let k = found.place in
      let before = ltb (jobs.release k) t in
      let passes = only_through (class k && before) (service.left t k) 0 found.more in
      record {
        job = k;
        inside = found.inside;
        in_class = and_true_left (class k) before passes;
        released = ltb-true (jobs.release k) t (and_true_right (class k) before passes);
        undone = omega (arith, found.more, only_most (class k && before) (service.left t k));
      }

  -- before tick 0 nothing was released
  pub open_start : open_work service class 0 ≡ 0
  open_start =
      elim (lt_or_le 0 (open_work service class 0)) [
        | inl some ↦ absurd (omega (arith, (open_some 0 some).released))
        | inr none ↦ omega arith
      ]

  pub came_split : (q x : ℕ) → q ≤ x → later q ≡ came jobs class q x + later x
  unfolding came
  came_split q x after =
      sum_cong jobs.count _ _ (λ k inside. came_one (class k) q x (jobs.release k) (jobs.amount k) after)
      ∙ sum_+ jobs.count _ _

  pub rest_split : (t : ℕ) → rest t ≡ open_work service class t + later t
  unfolding open_work
  rest_split t =
      sum_cong jobs.count _ _ (λ k inside. left_one (class k) t _ _ _ (whole service k inside t))
      ∙ sum_+ jobs.count _ _
