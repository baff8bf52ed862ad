-- The document's response as the code's value, one case for each, and what `recur` and `respond` answer.
-- Assumes nothing.
use Rattle.std.specs.Prelude.{◌≡◌, ℕ, ◌+◌, ◌-◌, ◌≤◌}
use Rattle.model.specs.Task.{Table}
use Rattle.model.specs.Response as Rule
use Rattle.sums.specs.Sized.{bound_all}
use Rattle.response.specs.declared.rounds.Response.{Response}
use Rattle.response.specs.declared.rounds.Response.TheVariants.{OnTime, Late}

abbrev pub response_of : Rule.Response → Response
response_of (Rule.on_time value rounds) = OnTime value rounds
response_of (Rule.late value round) = Late value round

abbrev pub value_of : Response → ℕ
value_of (OnTime value rounds) = value
value_of (Late value round) = value

-- where the recurrence from `start` settles, the last that may be on time being `end`; the value is `start` and at most
-- the share of a value that has not passed `end`
pub record Recurs (share : ℕ → ℕ) (start end : ℕ) (r : Response) : Type 0 where
  pub is : r ≡ response_of (Rule.response_by share start end)
  pub few : (value rounds : ℕ) → r ≡ OnTime value rounds → rounds ≤ end - start
  pub small : value_of r ≤ start + bound_all end

-- the response by the rule; "Rounds on time are at most D minus E."
pub record ResponseIs (table : Table) (k i : ℕ) (r : Response) : Type 0 where
  pub is : r ≡ response_of (Rule.response table k i)
  pub few : (value rounds : ℕ) → r ≡ OnTime value rounds → rounds ≤ (table.task k).D i - (table.task k).E i
