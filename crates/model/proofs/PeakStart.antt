-- The peak start can be too kind. Task 0 of kind 2, E 4,1,3,3, every P 5, above (3,9,20): by document 01's share, from
-- the peak frame, the response is 8. The most work that task 0 can bring, over all its starts, makes the same frame
-- late: it is brought from frame 3 on.
-- Assumes nothing.
use mathlib.Core.Path.{◌≡◌, refl}
use Prim.Native.Nat.{ℕ, zero, suc}
use Rattle.laws.specs.Sums.{sum, greatest}
use Rattle.laws.specs.Search.{least_from}
use Rattle.model.specs.Task.{Task}
use Rattle.model.specs.Demand.{frame, offset, counted, work}
use Rattle.model.specs.Response.{value, on_time, late, settles, settled_at, response_by, peak_frame, share_of, share_over, response_over, response}
use Rattle.model.proofs.EdgeExamples.{sporadic_task, over}

runs : ℕ → ℕ
runs zero = 4
runs (suc zero) = 1
runs (suc (suc i)) = 3

pub peak_first : Task
peak_first = record { count = 4; E = runs; D = λ i. 5; P = λ i. 5 }

pub from_the_peak : response (over peak_first (sporadic_task 3 9 20)) 1 0 ≡ on_time 8 2
unfolding peak_first runs response response_over response_by settles settled_at value share_over share_of peak_frame
    counted offset frame sum greatest least_from
from_the_peak = refl

pub from_the_heaviest : response_by (work peak_first) 3 9 ≡ late 10 2
unfolding peak_first runs response_by settles settled_at value work counted offset frame sum greatest least_from
from_the_heaviest = refl

-- the heaviest run of 10 ticks begins at frame 3
pub heaviest_start : counted peak_first (λ i. 1) 10 3 ≡ work peak_first 10
unfolding peak_first runs work counted offset frame sum greatest
heaviest_start = refl
