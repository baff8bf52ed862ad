-- The machine of the replay bench is a service over any strict order, and it prefers every class that its order leads
-- with.
-- Assumes nothing.
use mathlib.Core.Bool.{true, false≢true}
use mathlib.Core.Path.{◌≡◌, refl, sym, ◌∙◌, subst}
use Prim.Native.Nat.{ℕ}
use Rattle.laws.specs.Search.{Found, at, nowhere}
use Rattle.model.specs.Jobs.{Jobs}
use Rattle.model.specs.Machine.{Order, Strict, ready, left_at}
use Rattle.model.specs.Tick.{Pending}
use Rattle.model.specs.Service.{Service, machine_serves, Class, Serves, Prefers, Leads}
use Rattle.model.proofs.PickRight.{Picked, pick_right}
use Rattle.model.proofs.MachineLaws.{ready_is, is_ready, left_start, left_step}

module _ (jobs : Jobs) (before : Order) where
  -- what the job of tick t may be
  abbrev Choice : ℕ → Found → Type 0
  Choice t = Picked (ready jobs t (left_at jobs before t)) before jobs.count

  module _ (strict : Strict before) where
    choice : (t : ℕ) → Choice t (machine_serves jobs before t)
    choice t = pick_right (ready jobs t (left_at jobs before t)) before strict jobs.count

    pub machine_ready : (t k : ℕ) → machine_serves jobs before t ≡ at k → Pending jobs t (left_at jobs before t) k
    machine_ready t k here =
        let first : Choice t (at k) = subst (Choice t) here (choice t) in
        ready_is jobs t (left_at jobs before t) k first.inside first.passes

    abbrev pub machine : Service jobs
    machine =
        record {
          left = left_at jobs before;
          serves = machine_serves jobs before;
          start = λ k inside. left_start jobs before k;
          step = λ t k inside. left_step jobs before t k;
          ready = machine_ready;
        }

module _ (jobs : Jobs) {before : Order} (strict : Strict before) (class : Class) (leads : Leads before class) where
  -- the job that is chosen while one of the class waits goes before it, so it is of the class
  choice_leads : (t k : ℕ) → class k ≡ true → Pending jobs t (left_at jobs before t) k → (served : Found)
      → Choice jobs before t served → Serves class served
  choice_leads t k in_class waits (at b) first =
      let passes = is_ready jobs t (left_at jobs before t) k waits in
      record {
        job = b;
        is = refl;
        in_class = leads b k in_class (first.none_before k waits.inside passes);
      }
  choice_leads t k in_class waits nowhere none =
      absurd (false≢true (sym (none k waits.inside) ∙ is_ready jobs t (left_at jobs before t) k waits))

  pub machine_prefers : (d : ℕ) → Prefers (machine jobs before strict) class d
  machine_prefers d t k earlier in_class waits =
      choice_leads t k in_class waits (machine_serves jobs before t) (choice jobs before strict t)
