-- A run of any machine: what is left never rises, a job that is not released is whole, and the run is a schedule that
-- gives each job what it no longer has left.
-- Assumes nothing.
use mathlib.Core.Bool.{Bool, true, false, false≢true}
use mathlib.Core.Path.{◌≡◌, refl, ap}
use Prim.Native.Nat.{ℕ, zero, suc, ◌+◌, ◌≤◌, ◌<◌}
use native.Mathlib.Omega.{arith}
use native.Mathlib.Decide.{ℕ_discrete}
use lib.Dec.{leb}
use borrow.Author.Tests.{le-leb, eqb-true, eq-eqb, ne_eqb}
use Rattle.laws.specs.Sums.{only}
use Rattle.laws.specs.Search.{Found, at, nowhere}
use Rattle.laws.proofs.GateLaws.{only_implied}
use Rattle.model.specs.Jobs.{Jobs}
use Rattle.model.specs.Machine.{give}
use Rattle.model.specs.Schedule.{is_for, units}
use Rattle.model.specs.Service.{Service}
use Rattle.model.proofs.ScheduleLaws.{units_start, units_suc}

-- a tick that counts for job k went to it
is_for_at : (served : Found) (k : ℕ) → is_for served k ≡ true → served ≡ at k
is_for_at (at b) k counts = ap at (eqb-true b k counts)
is_for_at nowhere k counts = absurd (false≢true counts)

-- what the tick gave and what is left after it are what was left before it
give_back : (served : Found) (left : ℕ → ℕ) (k : ℕ) → (served ≡ at k → 0 < left k)
    → left k ≡ give served left k + only (is_for served k) 1
give_back (at b) left k undone =
    elim (ℕ_discrete b k) [
      | yes same ↦ let some = undone (ap at same) in rw (eq-eqb b k same) (omega arith)
      | no differ ↦ rw (ne_eqb b k differ) (omega arith)
    ]
give_back nowhere left k undone = omega arith

module _ {jobs : Jobs} (service : Service jobs) where
  module _ (k : ℕ) (inside : k < jobs.count) where
    pub service_tick : (t : ℕ)
        → service.left t k ≡ service.left (suc t) k + only (is_for (service.serves t) k) 1
    service_tick t =
        let back = give_back (service.serves t) (service.left t) k (λ here. (service.ready t k here).undone) in
        rw (service.step t k inside) back

    pub service_falls : (t : ℕ) → service.left (suc t) k ≤ service.left t k
    service_falls t = omega (arith, service_tick t)

    -- a tick that goes to a job takes a unit of it
    pub service_takes : (t : ℕ) → service.serves t ≡ at k → service.left (suc t) k < service.left t k
    service_takes t here = omega (arith, service_tick t, one)
      where
        one : only (is_for (service.serves t) k) 1 ≡ 1
        one = rw (here, eq-eqb k k refl)

    -- a tick that goes to a job comes no earlier than it
    released : (t : ℕ) → is_for (service.serves t) k ≡ true → jobs.release k ≤ t
    released t counts = (service.ready t k (is_for_at (service.serves t) k counts)).released

    -- a job that is not released is whole
    pub whole : (t : ℕ) → t ≤ jobs.release k → service.left t k ≡ jobs.amount k
    whole zero early = service.start k inside
    whole (suc t) early = which (is_for (service.serves t) k) refl (whole t (omega arith))
      where
        which : (counts : Bool) → is_for (service.serves t) k ≡ counts → service.left t k ≡ jobs.amount k
            → service.left (suc t) k ≡ jobs.amount k
        which true here so_far = absurd (omega (arith, released t here))
        which false other so_far = omega (arith, service_tick t, ap (λ (c : Bool). only c 1) other)

    -- the run is a schedule: what a job has left and what it got make up its amount
    pub service_gets : (t : ℕ)
        → service.left t k + units service.serves k (jobs.release k) t ≡ jobs.amount k
    service_gets zero = omega (arith, service.start k inside, units_start service.serves k (jobs.release k))
    service_gets (suc t) =
        let here = is_for (service.serves t) k in
        omega (
          arith,
          service_gets t,
          service_tick t,
          units_suc service.serves k (jobs.release k) t,
          only_implied (leb (jobs.release k) t) here 1 (λ counts. le-leb (jobs.release k) t (released t counts)),
        )
