-- What a caller of the code may rely on: its flat answer is what document 01 says, laid flat, and of that the promises
-- are made.
-- Assumes nothing.
use mathlib.Core.Path.{◌≡◌, refl, sym, ap, subst, ◌∙◌}
use mathlib.Core.Bool.{true, false}
use mathlib.Core.List.{List}
use Prim.Native.Nat.{ℕ, ◌≤◌}
use native.Mathlib.Omega.{arith}
use lib.ListN.{take, drop}
use Rattle.model.specs.Request.{Legal}
use Rattle.model.specs.Replay.{Replayed}
use Rattle.model.specs.Answer.{answered}
use Rattle.table.specs.Bytes.{Bytes}
use Rattle.table.specs.TableOf.{table_of}
use Rattle.table.specs.TableRefusals.{TableRefused}
use Rattle.requests.specs.Entry.{list_of}
use Rattle.requests.specs.Accepted.{Accepted}
use Rattle.desk.specs.declared.answers.Verdict.{Verdict}
use Rattle.desk.specs.declared.answers.Written.{Written}
use Rattle.desk.specs.declared.answers.Ending.{Ending}
use Rattle.desk.specs.Questions.{verdict_asked}
use Rattle.desk.specs.ListQuestions.{replays, replay_asked}
use Rattle.desk.specs.FlatVerdict.{flat_verdict}
use Rattle.promise.specs.Asked as Ask
use Rattle.promise.specs.ContractRows.{Slice, Buffer}
use Rattle.promise.specs.Promises.{Passed, NoSchedule, OverloadShown}
use Rattle.promise.specs.Callers.{Judges, WritesInto, Replays, Callers}
use Rattle.promise.proofs.EveryLaws.{every_question}
use Rattle.promise.proofs.ListExact.{answered_good}
use Rattle.promise.proofs.OverloadedLaws.{overloaded_shown}
use Rattle.promise.proofs.WritingExact.{over_judged}
use Rattle.promise.proofs.WrittenBack.{wrote_list, wrote_none}
use Rattle.promise.proofs.FlatSays.{is_overload, is_fit, is_open, is_refusal, verdict_low, not_missed, is_missed}

module _ (s : Slice) (bytes : Bytes s.now) where
  -- a list that is replayed was accepted
  replayed_good : (list : List ℕ) {r : Replayed} → replay_asked s.now list ≡ answered r
      → Accepted (table_of s.now) list
  unfolding replay_asked
  replayed_good list is = (answered_good replays s.now list is).list_good

  never_missed : Passed s.now → (list : Slice) (e : Ending) → Replays s list e → e.missed ≡ false
  never_missed fit list e (κ, ℓ, name, after, (x, is, none)) =
      ap (λ (q : Ending). q.missed) is
      ∙ not_missed (replay_asked s.now list.now)
      (λ tick index asked.
      let met = fit.replays list.now (replayed_good list.now asked) in
      let apart : ◌≡◌ {A = ℕ} 0 1 = cc (asked, met.is) in absurd (omega arith))

  -- ---- what was written

  module _ (buffer : Buffer) (place : ℕ) (r : Written) (after : List ℕ) (w : WritesInto s buffer place r after)
      (none : r.refusal.number ≡ 0) where
    abbrev bytes_read : List ℕ
    bytes_read = take r.bytes (drop place after)

    shown : (t : ℕ) × (over : OverloadShown s.now t) × (bytes_read ≡ over.list)
    shown =
        let (κ, ℓ, (x, wrote, left)) = w in
        let back = wrote_list s.now bytes buffer.now place wrote none in
        let writes = back.writes in
        let over =
        overloaded_shown s.now bytes (over_judged s.now bytes writes.table_good writes.overloaded) in (
          _,
          over,
          rw left (over.read_back buffer.now place r x.1.0.now wrote none),
        )

    wrote : let list = list_of bytes_read in
        Legal (table_of s.now) list × NoSchedule (table_of s.now) list
    wrote =
        let (t, over, is) = shown in (
          subst (λ (l : List ℕ). Legal (table_of s.now) (list_of l)) (sym is) over.legal,
          subst (λ (l : List ℕ). NoSchedule (table_of s.now) (list_of l)) (sym is) over.no_schedule,
        )

    never_met : (list : Slice) → list.now ≡ bytes_read → (e : Ending) → Replays s list e
        → e.refusal.number ≡ 0 → e.missed ≡ true
    never_met list read e (κ, ℓ, name, last, (x, is, end)) accepted =
        let (t, over, is_list) = shown in
        let same = read ∙ is_list in
        ap (λ (q : Ending). q.missed) is
        ∙ is_missed (replay_asked s.now list.now)
        (λ number index no. ((every_question s.now bytes (Ask.replay list.now)).numbered number index no).from)
        (λ tick asked.
        let accepts = subst (Accepted (table_of s.now)) same (replayed_good list.now asked) in
        let apart : ◌≡◌ {A = ℕ} 0 1 = cc (asked, same, (over.replays accepts).is) in absurd (omega arith))
        (ap (λ (q : Ending). q.refusal.number) (sym is) ∙ accepted)

  -- ---- all of it

  -- the answer of the verdict's function is the rules' own, laid flat
  module _ (P : Verdict → Type 0) where
    judged_by : (r : Verdict) → Judges s r → P (flat_verdict (verdict_asked s.now)) → P r
    judged_by r (κ, ℓ, other, after, (x, is, none)) = subst P (sym is)

  number_is : (n : ℕ) (r : Verdict) → Judges s r → r.verdict ≡ n → (flat_verdict (verdict_asked s.now)).verdict ≡ n
  number_is n r (κ, ℓ, other, after, (x, is, none)) same = ap (λ (q : Verdict). q.verdict) (sym is) ∙ same

  pub callers : Callers s
  callers =
      let said = verdict_asked s.now in
      record {
        overloaded = λ r j one.
            judged_by (λ q. OverloadShown s.now q.t) r j
            (is_overload s.now bytes said refl (number_is 1 r j one));
        passed = λ r j two. is_fit s.now bytes said refl (number_is 2 r j two);
        undecided = λ r j three. is_open s.now bytes said refl (number_is 3 r j three);
        refuses = λ r j none.
            judged_by (λ q. TableRefused s.now q.refusal.number q.refusal.index) r j
            (is_refusal s.now bytes said refl (number_is 0 r j none));
        no_other = λ r j. judged_by (λ q. q.verdict ≤ 3) r j (verdict_low said);
        wrote = wrote;
        left_alone = λ buffer place r after (κ, ℓ, (x, wrote, left)) some.
            left ∙ wrote_none s.now bytes buffer.now place wrote some;
        never_missed = λ r j two. never_missed (is_fit s.now bytes said refl (number_is 2 r j two));
        never_met = never_met;
      }
