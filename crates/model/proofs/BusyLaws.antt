-- The busy interval: where work of a preferred class is open, more of it came since the class was last clear than there
-- were ticks. From then on each tick took a unit of the class, and yet some of it is left.
-- Assumes nothing.
use mathlib.Core.Bool.{true, ◌&&◌}
use mathlib.Core.Path.{◌≡◌, ap}
use mathlib.Core.Logic.{inl, inr}
use Prim.Native.Nat.{ℕ, zero, suc, ◌+◌, ◌-◌, ◌≤◌, ◌<◌}
use native.Mathlib.Nat.{add-zero, add-suc}
use native.Mathlib.Omega.{arith}
use lib.Dec.{ltb}
use borrow.Author.Tests.{lt-ltb}
use Rattle.laws.specs.Sums.{only}
use Rattle.laws.proofs.Cases.{lt_or_le}
use Rattle.laws.proofs.GateLaws.{only_passed, only_mono}
use Rattle.laws.proofs.LastZero.{LastZero, last_zero}
use Rattle.laws.proofs.SumParts.{sum_has, sum_less}
use Rattle.model.specs.Jobs.{Jobs}
use Rattle.model.specs.Service.{Service, Class, Prefers, came, open_work, Busy}
use Rattle.model.proofs.ServiceLaws.{service_falls, service_takes}
use Rattle.model.proofs.OpenLaws.{rest, open_some, open_start, came_split, rest_split}

module _ {jobs : Jobs} (service : Service jobs) (class : Class) where
  -- a job of the class that was released before t and is not done makes open work
  pub open_has : (t k : ℕ) → k < jobs.count → class k ≡ true → jobs.release k < t → 0 < service.left t k
      → 0 < open_work service class t
  unfolding open_work
  open_has t k inside in_class released undone =
      let before = lt-ltb (jobs.release k) t released in
      omega (
        arith,
        sum_has jobs.count (λ i. only (class i && ltb (jobs.release i) t) (service.left t i)) k inside,
        only_passed (class k && ltb (jobs.release k) t) (service.left t k) (rw (in_class, before)),
      )

  -- of a class that is clear at q and open at x, and lost a unit a tick, more came in between than there were ticks
  came_more : (q x : ℕ) → q ≤ x → open_work service class q ≡ 0 → 0 < open_work service class x
      → rest service class x + (x - q) ≤ rest service class q → x - q < came jobs class q x
  came_more q x later clear some lost =
      omega (arith, rest_split service class q, rest_split service class x, came_split service class q x later)

  module _ (d : ℕ) (prefers : Prefers service class d) where
    -- a tick after which work of the class is open took a unit of it
    open_takes : (t : ℕ) → t < d → 0 < open_work service class (suc t)
        → rest service class (suc t) < rest service class t
    open_takes t inside some =
        let waits = open_some service class (suc t) some in
        let falls = service_falls service waits.job waits.inside t in
        let served = prefers t waits.job inside waits.in_class
        (record {
          inside = waits.inside;
          released = omega (arith, waits.released);
          undone = omega (arith, waits.undone);
        }) in
        let known = (service.ready t served.job served.is).inside in
        sum_less jobs.count served.job _ _ known
        (rw served.in_class (service_takes service served.job known t served.is))
        (λ k l. only_mono (class k) _ _ (service_falls service k l t))

    -- so since q each tick took one
    rest_falls : (q m : ℕ) → q + m ≤ d → ((t : ℕ) → q < t → t ≤ d → 0 < open_work service class t)
        → rest service class (q + m) + m ≤ rest service class q
    rest_falls q zero within after = simp add-zero (omega arith)
    rest_falls q (suc m) within after =
        rw (add-suc q m)
        (omega (
          arith,
          rest_falls q m (omega arith) after,
          open_takes (q + m) (omega arith) (after (suc (q + m)) (omega arith) (omega arith)),
        ))

    -- the class was last clear at `last`
    from_last : (last : LastZero (open_work service class) d) → last.place < d → Busy service class d
    from_last last earlier =
        record { from = last.place; before = earlier; clear = last.is_zero; after = after; more = more }
      where
        after : (t : ℕ) → last.place < t → t ≤ d → 0 < open_work service class t
        after t past within = last.after t (omega arith) past

        more : (x : ℕ) → last.place < x → x ≤ d → x - last.place < came jobs class last.place x
        more x past within =
            let q = last.place in
            let whole : q + (x - q) ≡ x = omega arith in
            let lost = rest_falls q (x - q) (omega arith) after in
            came_more q x (omega arith) last.is_zero (after x past within) (rw whole at lost)

    pub busy : 0 < open_work service class d → Busy service class d
    busy some =
        let last = last_zero (open_work service class) (open_start service class) d in
        elim (lt_or_le last.place d) [
          | inl earlier ↦ from_last last earlier
          | inr now ↦
              let same : last.place ≡ d = omega (arith, last.within) in
              absurd (omega (arith, last.is_zero, ap (open_work service class) same))
        ]
