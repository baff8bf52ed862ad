-- The higher tasks' shares together, and the response of a frame with them, whichever tasks are the higher ones; and
-- both in table order. Of one task's share they use only that it never falls.
-- Assumes nothing.
use mathlib.Core.Path.{◌≡◌, refl, sym, ◌∙◌, subst}
use Prim.Native.Nat.{ℕ, ◌≤◌}
use borrow.Author.Tests.{lt-ltb, le-ltb}
use lib.Dec.{ltb}
use Rattle.laws.specs.Sums.{sum, only}
use Rattle.laws.proofs.GateLaws.{only_mono}
use Rattle.laws.proofs.SumLaws.{sum_cong, sum_mono, sum_past}
use Rattle.model.specs.Task.{Table, TaskSet}
use Rattle.model.specs.Response.{Response, response_by, share_of, share_over, response_over, above_in_table, higher_share, response}
use Rattle.model.specs.ResponseMeaning.{NeverFalls, ResponseSays}
use Rattle.model.proofs.ResponseLaws.{response_says, says_only}
use Rattle.model.proofs.ShareLaws.{share_mono}

-- ---- any set of higher tasks

module _ (table : Table) (higher : TaskSet) where
  pub over_never_falls : NeverFalls (share_over table higher)
  unfolding share_over
  over_never_falls v w order =
      sum_mono table.tasks (λ j. only (higher j) (share_of (table.task j) v))
      (λ j. only (higher j) (share_of (table.task j) w))
      (λ j inside. only_mono (higher j) _ _ (share_mono (table.task j) v w order))

  -- the response of frame i of task k
  module _ (k i : ℕ) where
    pub over_is : response_over table higher k i
        ≡ response_by (share_over table higher) ((table.task k).E i) ((table.task k).D i)
    unfolding response_over
    over_is = refl

    -- it says what the document says
    pub over_right : ResponseSays (share_over table higher) ((table.task k).E i) ((table.task k).D i)
        (response_over table higher k i)
    over_right =
        subst (ResponseSays (share_over table higher) ((table.task k).E i) ((table.task k).D i)) (sym over_is)
        (response_says over_never_falls ((table.task k).E i) ((table.task k).D i))

    -- and whatever says that is the response
    pub over_only : (r : Response) → ResponseSays (share_over table higher) ((table.task k).E i) ((table.task k).D i) r
        → r ≡ response_over table higher k i
    over_only r says =
        says_only (share_over table higher) ((table.task k).E i) ((table.task k).D i) r says ∙ sym over_is

-- ---- table order

-- the tasks above task k are those before it
pub higher_sum : (table : Table) (k w : ℕ) → k ≤ table.tasks
    → higher_share table k w ≡ sum k (λ j. share_of (table.task j) w)
unfolding share_over
higher_sum table k w known =
    sum_past k table.tasks (λ j. only (ltb j k) (share_of (table.task j) w)) known
    (λ j past. rw (le-ltb j k past))
    ∙ sum_cong k (λ j. only (ltb j k) (share_of (table.task j) w)) (λ j. share_of (table.task j) w)
    (λ j less. rw (lt-ltb j k less))

module _ (table : Table) (k i : ℕ) where
  pub response_is : response table k i
      ≡ response_by (higher_share table k) ((table.task k).E i) ((table.task k).D i)
  unfolding response
  response_is = over_is table (above_in_table k) k i

  pub response_right : ResponseSays (higher_share table k) ((table.task k).E i) ((table.task k).D i)
      (response table k i)
  unfolding response
  response_right = over_right table (above_in_table k) k i

  pub response_only : (r : Response)
      → ResponseSays (higher_share table k) ((table.task k).E i) ((table.task k).D i) r → r ≡ response table k i
  unfolding response
  response_only = over_only table (above_in_table k) k i
