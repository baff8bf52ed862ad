-- What the scan for the next request finds.
-- Assumes nothing.
use Rattle.std.specs.Prelude.{ℕ, ◌<◌, get_or}
use Rattle.requests.specs.Entry.{most_requests}
use Rattle.bench.specs.declared.state.Bench.{Bench}

-- "unfinished": request k has a unit left to be given
pub record HasUnit (b : Bench) (k : ℕ) : Type 0 where
  pub inside : k < most_requests
  pub undone : 0 < get_or b.left k 0
