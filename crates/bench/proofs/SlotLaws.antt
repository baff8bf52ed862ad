-- What the bench's three searches over its slots answer, what a unit less does to the list of amounts, and that the
-- requests themselves stay.
-- Assumes nothing.
use mathlib.Core.Path.{◌≡◌, refl, sym, ◌∙◌, subst}
use mathlib.Core.Logic.{inl, inr}
use mathlib.Core.Bool.{Bool, true, false, true≢false}
use mathlib.Core.List.{List}
use Prim.Native.Nat.{ℕ, ◌-◌, ◌≤◌, ◌<◌}
use native.Mathlib.Omega.{arith}
use native.Mathlib.Decide.{ℕ_discrete}
use lib.Dec.{leb}
use lib.ListN.{length, get_or, set, length-set, get_or-eq_default}
use lib.Seq.{get_or-set_same, get_or-set_other}
use borrow.Author.Tests.{leb-true, ltb-true, ltb-false, le-leb, lt-ltb, eq-eqb, ne_eqb}
use Rattle.laws.specs.Search.{Found, at, nowhere}
use Rattle.laws.proofs.Cases.{lt_or_le}
use Rattle.laws.proofs.Every.{and_true_left, and_true_right}
use Rattle.laws.proofs.SearchLaws.{Right, least_right}
use Rattle.model.specs.Machine.{sooner, give}
use Rattle.model.specs.Tick.{OneUnit}
use Rattle.model.proofs.OrderLaws.{sooner_strict}
use Rattle.model.proofs.MachineLaws.{one_unit}
use Rattle.requests.specs.Entry.{most_requests}
use Rattle.bench.specs.declared.state.Bench.{Bench}
use Rattle.bench.specs.declared.state.Outcome.{Outcome}
use Rattle.bench.specs.Rule.{has_left, is_late, jobs_in, first_late, first_left, next_in, less_one, same_requests}
use Rattle.bench.specs.Ticked.{left_in, LateIn, Misses, NoneLate, SomeLeft, Kept}

module _ (b : Bench) where
  -- ---- the first late slot

  abbrev late_test : ℕ → Bool
  late_test = is_late b.left b.due b.tick

  late_is : (k : ℕ) → k < most_requests → late_test k ≡ true → LateIn b k
  late_is k inside passes =
      let undone = has_left b.left k in
      let over = leb (get_or b.due k 0) b.tick in
      record {
        inside = inside;
        undone = ltb-true _ _ (and_true_left undone over passes);
        over = leb-true _ _ (and_true_right undone over passes);
      }

  not_late : (k : ℕ) → late_test k ≡ false → LateIn b k → ⊥
  not_late k fails late = true≢false (sym (rw (lt-ltb _ _ late.undone, le-leb _ _ late.over)) ∙ fails)

  late_right : Right late_test most_requests 0 (first_late b)
  unfolding first_late
  late_right = least_right late_test most_requests 0

  pub first_late_at : (i : ℕ) → first_late b ≡ at i → Misses b i
  first_late_at i found =
      let least = subst (Right late_test most_requests 0) found late_right in
      record {
        late = late_is i least.high least.passes;
        lowest = λ j less. not_late j (least.first j (omega arith) less);
      }

  pub first_late_none : first_late b ≡ nowhere → NoneLate b
  first_late_none found k late =
      not_late k (subst (Right late_test most_requests 0) found late_right k (omega arith) late.inside) late

  -- ---- the first with work left

  abbrev left_test : ℕ → Bool
  left_test = has_left b.left

  left_right : Right left_test most_requests 0 (first_left b)
  unfolding first_left
  left_right = least_right left_test most_requests 0

  pub first_left_at : (k : ℕ) → first_left b ≡ at k → SomeLeft b
  first_left_at k found =
      let least = subst (Right left_test most_requests 0) found left_right in
      record { job = k; inside = least.high; undone = ltb-true _ _ least.passes }

  pub first_left_none : first_left b ≡ nowhere → (k : ℕ) → k < most_requests → left_in b k ≡ 0
  first_left_none found k inside =
      omega (
        arith,
        ltb-false 0 (left_in b k) (subst (Right left_test most_requests 0) found left_right k (omega arith) inside),
      )

  -- ---- the one that gets the unit

  pub next_unit : OneUnit (jobs_in b) (sooner (jobs_in b)) b.tick (left_in b) (give (next_in b) (left_in b))
  unfolding next_in
  next_unit = one_unit (jobs_in b) (sooner (jobs_in b)) b.tick (left_in b) (sooner_strict (jobs_in b))

-- ---- a unit less, in the list: past its end both sides are 0

module _ (left : List ℕ) (b : ℕ) where
  less : List ℕ
  less = set left b (get_or left b 0 - 1)

  less_past : length left ≤ b → get_or less b 0 ≡ 0
  unfolding less
  less_past past = get_or-eq_default less 0 (rw length-set past)

  less_here : get_or less b 0 ≡ get_or left b 0 - 1
  unfolding less
  less_here =
      elim (lt_or_le b (length left)) [
        | inl inside ↦ get_or-set_same left b (get_or left b 0 - 1) 0 inside
        | inr past ↦ omega (arith, less_past past, get_or-eq_default left 0 past)
      ]

  less_at : (k : ℕ) → get_or less k 0 ≡ give (at b) (λ j. get_or left j 0) k
  unfolding less
  less_at k =
      elim (ℕ_discrete k b) [
        | yes here ↦ rw (here, eq-eqb b b refl) less_here
        | no differ ↦ rw (ne_eqb b k (λ e. differ (sym e)))
            (get_or-set_other left b k (get_or left b 0 - 1) 0 differ ∙ omega arith)
      ]

pub less_one_at : (left : List ℕ) (r : Found) (k : ℕ) → get_or (less_one left r) k 0 ≡ give r (λ j. get_or left j 0) k
unfolding less
less_one_at left nowhere k = refl
less_one_at left (at b) k = less_at left b k

-- ---- the requests themselves

pub kept_same : {b : Bench} → Kept b b
kept_same = record { due = refl; arrive = refl; release = refl; task = refl }

pub kept_on : {first b : Bench} {tick : ℕ} {left : List ℕ} {outcome : Outcome} → Kept first b
    → Kept first (same_requests b tick left outcome)
kept_on was = record { due = was.due; arrive = was.arrive; release = was.release; task = was.task }
