-- `min_by_key` over the numbers below n that pass a test: the first, in order, of those whose key is least.
-- Assumes nothing.
use mathlib.Core.Bool.{Bool, true, false, cond}
use mathlib.Core.Path.{◌≡◌, refl, sym, ap, subst, ◌∙◌}
use mathlib.Core.List.{List, [], ◌∷◌}
use Prim.Native.Nat.{ℕ, zero, suc, ◌+◌, ◌≤◌, ◌<◌}
use native.Mathlib.Numerals.{add-one}
use native.Mathlib.Omega.{arith}
use denote.Param.Members.{Mut}
use denote.Ref.{Bor}
use Rattle.std.specs.declared.cmp.Ordering.{Ordering}
use Rattle.std.specs.declared.cmp.Ordering.TheVariants.{Less, Equal, Greater}
use Rattle.std.specs.declared.iter.Filter.{Filter}
use Rattle.std.specs.declared.ops.Range.{Range}
use Rattle.std.specs.Fn.{CalledAt, TakesAt}
use Rattle.std.specs.Iterator.{AlwaysYields, Yields, ActsAsAt, KeyTurn, PicksMinByKey, CallableInMinByKey}
use Rattle.std.specs.Iterator.Adapters.{filter_source, filter_callee, filter_steps}
use Rattle.std.specs.List.{FoldsTo, fold, reduce, filter, range_with_len}
use Rattle.std.specs.Ordering.{is_gt, min_by_ordering}
use Rattle.std.specs.Prelude.{Option, Some, None}
use Rattle.std.proofs.iter.Yields.{nat_range_steps}
use Rattle.std.proofs.lemmas.Iterator.{YieldsList, YieldsList-from_range}
use Rattle.std.proofs.lemmas.Iterator.Consumers.{YieldsList-from_filter, reduce_from_yields_List}
use Rattle.laws.specs.Search.{Found, at, nowhere, option_of}

-- ---- what the call asks, over numbers that all have P

abbrev Each : (ℕ → Type 0) → List ℕ → Type 0
Each P [] = Unit {0}
Each P (x ∷ xs) = P x × Each P xs

each_where : (P : ℕ → Type 0) (b : Bool) (x : ℕ) (xs : List ℕ) → P x → Each P xs → Each P (cond b (x ∷ xs) xs)
each_where P true x xs has rest = (has, rest)
each_where P false x xs has rest = rest

each_below : (test : ℕ → Bool) (n a m : ℕ) → a + n ≤ m → Each (λ k. k < m) (filter test (range_with_len a n))
each_below test zero a m low = tt
each_below test (suc n) a m low =
    each_where (λ k. k < m) (test a) a _ (omega (arith, low)) (each_below test n (a + 1) m (omega (arith, low)))

module _ {S : Type 0} (steps : S → Option ℕ → S → Type 0) (P : ℕ → Type 0) where
  first_has : (all : List ℕ) (s t : S) (x : ℕ) → AlwaysYields steps (λ x. x) s all → Each P all → steps s (Some x) t
      → P x
  first_has [] s t x gives each step = absurd (gives x t step)
  first_has (y ∷ all) s t x gives each step = subst P (sym (gives.1 x t step).0) each.0

  later_has : (all xs : List ℕ) (s t u : S) (x : ℕ) → AlwaysYields steps (λ x. x) s all → Each P all
      → Yields steps s xs t → steps t (Some x) u → P x
  later_has all [] s t u x gives each same step =
      first_has all s u x gives each (subst (λ v. steps v (Some x) u) (sym same) step)
  later_has [] (z ∷ xs) s t u x gives each ran step = absurd (gives z ran.0 ran.1)
  later_has (y ∷ all) (z ∷ xs) s t u x gives each ran step =
      later_has all xs ran.0 t u x (gives.1 z ran.0 ran.1).1 each.1 ran.2 step

module _ {F K : Type 0} (g : Mut F (Bor ℕ × Unit {0}) K) (cmp : K → K → Ordering) (f : F)
    (stays : (x : ℕ) (k : K) (q : F) → CalledAt g f x k q → q ≡ f) where
  unmoved : (xs : List ℕ) (p q : (F × K) × ℕ) → p.0.0 ≡ f
      → FoldsTo {P = (F × K) × ℕ} (KeyTurn min_by_ordering min_by_ordering g cmp) p xs q → q.0.0 ≡ f
  unmoved [] p q same ran = ap (λ (w : (F × K) × ℕ). w.0.0) (sym ran) ∙ same
  unmoved (x ∷ xs) p q same ran =
      let j = ran.0 in
      let turn = ran.1 in
      unmoved xs j q (stays x turn.0 j.0.0 (subst (λ h. CalledAt g h x turn.0 j.0.0) same turn.2)) ran.2

  callable_by_key : {S : Type 0} (steps : S → Option ℕ → S → Type 0) (s : S) (all : List ℕ) (P : ℕ → Type 0)
      → YieldsList steps (λ x. x) s all → Each P all → ((x : ℕ) → P x → TakesAt g f x)
      → CallableInMinByKey steps g cmp s f
  callable_by_key steps s all P gives each takes = λ x t step. (
    takes x (first_has steps P all s t x gives.runs each step),
    λ k h call. record {
      at = λ xs v q z u ran folded more.
          subst (λ w. TakesAt g w z) (sym (unmoved xs ((h, k), x) q (stays x k h call) folded))
          (takes z (later_has steps P all (x ∷ xs) s v u z gives.runs each (t, step, ran) more));
    },
  )

-- ---- what it answers

-- the second only where its key is less
abbrev lesser : {K : Type 0} → (K → K → Ordering) → (ℕ → K) → ℕ → ℕ → ℕ
lesser cmp key b x = min_by_ordering (cmp (key b) (key x)) b x

module _ {F K : Type 0} (g : Mut F (Bor ℕ × Unit {0}) K) (cmp : K → K → Ordering) (f : F) (key : ℕ → K)
    (acts : ActsAsAt g f key) where
  key_of : (o : Ordering) (b x : ℕ) → min_by_ordering o (key b) (key x) ≡ key (min_by_ordering o b x)
  key_of Less b x = refl
  key_of Equal b x = refl
  key_of Greater b x = refl

  folds : (xs : List ℕ) (p q : (F × K) × ℕ) → p.0.0 ≡ f → p.0.1 ≡ key p.1
      → FoldsTo {P = (F × K) × ℕ} (KeyTurn min_by_ordering min_by_ordering g cmp) p xs q
      → FoldsTo (λ b x c. c ≡ lesser cmp key b x) p.1 xs q.1
  folds [] p q same is ran = ap (λ (w : (F × K) × ℕ). w.1) ran
  folds (x ∷ xs) p q same is ran =
      let j = ran.0 in
      let turn = ran.1 in
      let called = acts x turn.0 j.0.0 (subst (λ h. CalledAt g h x turn.0 j.0.0) same turn.2) in
      let order : turn.1 ≡ cmp (key p.1) (key x) = sym turn.3 ∙ (λ i. cmp (is i) (called.1 i)) in
      let best : j.1 ≡ min_by_ordering turn.1 p.1 x = turn.5 in
      let its_key : j.0.1 ≡ key j.1 =
      turn.4 ∙ (λ i. min_by_ordering turn.1 (is i) (called.1 i)) ∙ key_of turn.1 p.1 x ∙ ap key (sym best) in (
        j.1,
        best ∙ ap (λ o. min_by_ordering o p.1 x) order,
        folds xs j q called.0 its_key ran.2,
      )

  least_by_key : {S : Type 0} (steps : S → Option ℕ → S → Type 0) (s : S) (all : List ℕ) (r : Option ℕ)
      → PicksMinByKey steps g cmp s f r → YieldsList steps (λ x. x) s all → r ≡ reduce (lesser cmp key) all
  least_by_key steps s all None ran gives = reduce_from_yields_List {steps = steps} (lesser cmp key) s None ran gives
  least_by_key steps s all (Some y) ran gives =
      let called = acts ran.0 ran.2 ran.3 ran.6 in
      reduce_from_yields_List {steps = steps} (lesser cmp key) s (Some y) (
        ran.0,
        ran.1,
        ran.5,
        folds ran.1 ((ran.3, ran.2), ran.0) (ran.4, y) called.0 called.1 ran.7,
      ) gives

-- ---- the first of those below n, as it is found from below

-- `best n` is the first of those below n, where `before` says that a later one goes before an earlier one
pub record FromBelow (test : ℕ → Bool) (before : ℕ → ℕ → Bool) (best : ℕ → Found) : Type 0 where
  pub start : best 0 ≡ nowhere
  pub skips : (n : ℕ) → test n ≡ false → best (suc n) ≡ best n
  pub first : (n : ℕ) → test n ≡ true → best n ≡ nowhere → best (suc n) ≡ at n
  pub wins : (n b : ℕ) → test n ≡ true → best n ≡ at b → before n b ≡ true → best (suc n) ≡ at n
  pub keeps : (n b : ℕ) → test n ≡ true → best n ≡ at b → before n b ≡ false → best (suc n) ≡ at b

module _ {K : Type 0} (cmp : K → K → Ordering) (key : ℕ → K) (test : ℕ → Bool) (before : ℕ → ℕ → Bool)
    (best : ℕ → Found) (from : FromBelow test before best)
    (agrees : (n b : ℕ) → before n b ≡ is_gt (cmp (key b) (key n))) where
  turn : (n b : ℕ) (o : Ordering) → test n ≡ true → best n ≡ at b → before n b ≡ is_gt o
      → best (suc n) ≡ at (min_by_ordering o b n)
  turn n b Less passes found later = from.keeps n b passes found later
  turn n b Equal passes found later = from.keeps n b passes found later
  turn n b Greater passes found sooner = from.wins n b passes found sooner

  some_turn : (t : Bool) (a b : ℕ) (xs : List ℕ) (r : Option ℕ)
      → (t ≡ true → Some (fold (lesser cmp key) (lesser cmp key b a) xs) ≡ r)
      → (t ≡ false → Some (fold (lesser cmp key) b xs) ≡ r)
      → Some (fold (lesser cmp key) b (cond t (a ∷ xs) xs)) ≡ r
  some_turn true a b xs r takes leaves = takes refl
  some_turn false a b xs r takes leaves = leaves refl

  none_turn : (t : Bool) (a : ℕ) (xs : List ℕ) (r : Option ℕ) → (t ≡ true → Some (fold (lesser cmp key) a xs) ≡ r)
      → (t ≡ false → reduce (lesser cmp key) xs ≡ r) → reduce (lesser cmp key) (cond t (a ∷ xs) xs) ≡ r
  none_turn true a xs r takes leaves = takes refl
  none_turn false a xs r takes leaves = leaves refl

  on : (a : ℕ) → best (a + 1) ≡ best (suc a)
  on a = ap best (add-one a)

  after_some : (n a b m : ℕ) → a + n ≡ m → best a ≡ at b
      → Some (fold (lesser cmp key) b (filter test (range_with_len a n))) ≡ option_of (best m)
  after_some zero a b m e found = ap option_of (sym found ∙ ap best (omega (arith, e)))
  after_some (suc n) a b m e found =
      some_turn (test a) a b (filter test (range_with_len (a + 1) n)) (option_of (best m))
      (λ passes. after_some n (a + 1) (lesser cmp key b a) m (omega (arith, e))
      (on a ∙ turn a b (cmp (key b) (key a)) passes found (agrees a b)))
      (λ fails. after_some n (a + 1) b m (omega (arith, e)) (on a ∙ from.skips a fails ∙ found))

  after_none : (n a m : ℕ) → a + n ≡ m → best a ≡ nowhere
      → reduce (lesser cmp key) (filter test (range_with_len a n)) ≡ option_of (best m)
  after_none zero a m e none = ap option_of (sym none ∙ ap best (omega (arith, e)))
  after_none (suc n) a m e none =
      none_turn (test a) a (filter test (range_with_len (a + 1) n)) (option_of (best m))
      (λ passes. after_some n (a + 1) a m (omega (arith, e)) (on a ∙ from.first a passes none))
      (λ fails. after_none n (a + 1) m (omega (arith, e)) (on a ∙ from.skips a fails ∙ none))

-- ---- over `(0..n).filter(..)`

module _ {G : Type 0} {h : Mut G (Bor ℕ × Unit {0}) Bool} {p : G} {s : Filter (Range ℕ) G} (n : ℕ) (test : ℕ → Bool)
    (source : filter_source s ≡ record { start = 0; end = n }) (closure : filter_callee s ≡ p)
    (tests : ActsAsAt h p test) where
  passing : YieldsList (filter_steps nat_range_steps h) (λ x. x) s (filter test (range_with_len 0 n))
  passing = YieldsList-from_filter h test (YieldsList-from_range 0 n n source (omega arith)) closure tests

  module _ {F K : Type 0} {g : Mut F (Bor ℕ × Unit {0}) K} {f : F} (cmp : K → K → Ordering) where
    -- the key may be asked of each of them, where a call of it changes nothing
    pub callable_below : ((x : ℕ) (k : K) (q : F) → CalledAt g f x k q → q ≡ f) → ((x : ℕ) → x < n → TakesAt g f x)
        → CallableInMinByKey (filter_steps nat_range_steps h) g cmp s f
    callable_below stays takes =
        callable_by_key g cmp f stays (filter_steps nat_range_steps h) s (filter test (range_with_len 0 n)) (λ x. x < n)
        passing (each_below test n 0 n (omega arith)) takes

    -- and the first of the least key is what is found from below, where `before` tells the keys apart
    pub least_below : {r : Option ℕ} (key : ℕ → K) (before : ℕ → ℕ → Bool) (best : ℕ → Found) → ActsAsAt g f key
        → PicksMinByKey (filter_steps nat_range_steps h) g cmp s f r → FromBelow test before best
        → ((m b : ℕ) → before m b ≡ is_gt (cmp (key b) (key m))) → r ≡ option_of (best n)
    least_below {r = r} key before best acts ran from agrees =
        least_by_key g cmp f key acts (filter_steps nat_range_steps h) s (filter test (range_with_len 0 n)) r ran
        passing
        ∙ after_none cmp key test before best from agrees n 0 n (omega arith) from.start
