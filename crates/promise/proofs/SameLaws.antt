-- A test that two answers are the same, and that it is right: what the table of named numbers is computed by.
-- Assumes nothing.
use mathlib.Core.Bool.{Bool, true, false, ◌&&◌}
use mathlib.Core.Path.{◌≡◌, refl, ap, ap₂}
use mathlib.Core.List.{List, [], ◌∷◌}
use Prim.Native.Nat.{ℕ}
use lib.Dec.{T, eqb, eqb→eq}
use lib.IntN.{ℤ, pos, negsuc}
use Rattle.laws.proofs.Every.{both_left, both_right}
use Rattle.model.specs.Verdict.{Verdict, overloaded, fits, undecided}
use Rattle.model.specs.Replay.{Replayed, missed, all_met}
use Rattle.model.specs.Response.{Response, on_time, late}
use Rattle.model.specs.Answer.{Answer, answered, refused}

-- what is made of two numbers is the same where both are
same_two : {A : Type 0} (make : ℕ → ℕ → A) (v n w m : ℕ) → T (eqb v w && eqb n m) → make v n ≡ make w m
same_two make v n w m h =
    ap₂ make (eqb→eq v w (both_left (eqb v w) (eqb n m) h)) (eqb→eq n m (both_right (eqb v w) (eqb n m) h))

unfoldable pub same_int : ℤ → ℤ → Bool
same_int (pos a) (pos b) = eqb a b
same_int (pos a) (negsuc b) = false
same_int (negsuc a) (pos b) = false
same_int (negsuc a) (negsuc b) = eqb a b

pub same_int_is : (a b : ℤ) → T (same_int a b) → a ≡ b
unfolding same_int
same_int_is (pos a) (pos b) h = ap pos (eqb→eq a b h)
same_int_is (pos a) (negsuc b) h = absurd h
same_int_is (negsuc a) (pos b) h = absurd h
same_int_is (negsuc a) (negsuc b) h = ap negsuc (eqb→eq a b h)

unfoldable pub same_list : List ℕ → List ℕ → Bool
same_list [] [] = true
same_list [] (y ∷ m) = false
same_list (x ∷ l) [] = false
same_list (x ∷ l) (y ∷ m) = eqb x y && same_list l m

pub same_list_is : (l m : List ℕ) → T (same_list l m) → l ≡ m
unfolding same_list
same_list_is [] [] h = refl
same_list_is [] (y ∷ m) h = absurd h
same_list_is (x ∷ l) [] h = absurd h
same_list_is (x ∷ l) (y ∷ m) h =
    ap₂ ◌∷◌ (eqb→eq x y (both_left (eqb x y) (same_list l m) h))
    (same_list_is l m (both_right (eqb x y) (same_list l m) h))

-- three parts that are the same, each by its test
pub same_three : {A B C D : Type 0} (put : A → B → C → D) (p q r : Bool) {a x : A} {b y : B} {c z : C}
    → (T p → a ≡ x) → (T q → b ≡ y) → (T r → c ≡ z) → T (p && (q && r)) → put a b c ≡ put x y z
same_three put p q r first second third h =
    let rest = both_right p (q && r) h in
    let one = first (both_left p (q && r) h) in
    let two = second (both_left q r rest) in
    let three = third (both_right q r rest) in
    rw (one, two, three)

unfoldable pub same_verdict : Verdict → Verdict → Bool
same_verdict (overloaded t m l) (overloaded u n k) = eqb t u && (same_int m n && same_list l k)
same_verdict (fits w m t) (fits v n u) = eqb w v && (same_int m n && eqb t u)
same_verdict undecided undecided = true
same_verdict (overloaded t m l) (fits v n u) = false
same_verdict (overloaded t m l) undecided = false
same_verdict (fits w m t) (overloaded u n k) = false
same_verdict (fits w m t) undecided = false
same_verdict undecided (overloaded u n k) = false
same_verdict undecided (fits v n u) = false

pub same_verdict_is : (a b : Verdict) → T (same_verdict a b) → a ≡ b
unfolding same_verdict
same_verdict_is (overloaded t m l) (overloaded u n k) h =
    same_three overloaded (eqb t u) (same_int m n) (same_list l k) (eqb→eq t u) (same_int_is m n) (same_list_is l k) h
same_verdict_is (fits w m t) (fits v n u) h =
    same_three fits (eqb w v) (same_int m n) (eqb t u) (eqb→eq w v) (same_int_is m n) (eqb→eq t u) h
same_verdict_is undecided undecided h = refl
same_verdict_is (overloaded t m l) (fits v n u) h = absurd h
same_verdict_is (overloaded t m l) undecided h = absurd h
same_verdict_is (fits w m t) (overloaded u n k) h = absurd h
same_verdict_is (fits w m t) undecided h = absurd h
same_verdict_is undecided (overloaded u n k) h = absurd h
same_verdict_is undecided (fits v n u) h = absurd h

unfoldable pub same_replay : Replayed → Replayed → Bool
same_replay (missed t i) (missed u j) = eqb t u && eqb i j
same_replay (all_met t) (all_met u) = eqb t u
same_replay (missed t i) (all_met u) = false
same_replay (all_met t) (missed u j) = false

pub same_replay_is : (a b : Replayed) → T (same_replay a b) → a ≡ b
unfolding same_replay
same_replay_is (missed t i) (missed u j) h = same_two missed t i u j h
same_replay_is (all_met t) (all_met u) h = ap all_met (eqb→eq t u h)
same_replay_is (missed t i) (all_met u) h = absurd h
same_replay_is (all_met t) (missed u j) h = absurd h

unfoldable pub same_response : Response → Response → Bool
same_response (on_time v n) (on_time w m) = eqb v w && eqb n m
same_response (late v n) (late w m) = eqb v w && eqb n m
same_response (on_time v n) (late w m) = false
same_response (late v n) (on_time w m) = false

pub same_response_is : (a b : Response) → T (same_response a b) → a ≡ b
unfolding same_response
same_response_is (on_time v n) (on_time w m) h = same_two on_time v n w m h
same_response_is (late v n) (late w m) h = same_two late v n w m h
same_response_is (on_time v n) (late w m) h = absurd h
same_response_is (late v n) (on_time w m) h = absurd h

unfoldable pub same_answer : {A : Type 0} → (A → A → Bool) → Answer A → Answer A → Bool
same_answer same (answered a) (answered b) = same a b
same_answer same (answered a) (refused n i) = false
same_answer same (refused m j) (answered b) = false
same_answer same (refused m j) (refused n i) = eqb m n && eqb j i

pub same_answer_is : {A : Type 0} (same : A → A → Bool) → ((a b : A) → T (same a b) → a ≡ b) → (x y : Answer A)
    → T (same_answer same x y) → x ≡ y
unfolding same_answer
same_answer_is same is (answered a) (answered b) h = ap answered (is a b h)
same_answer_is same is (answered a) (refused n i) h = absurd h
same_answer_is same is (refused m j) (answered b) h = absurd h
same_answer_is same is (refused m j) (refused n i) h = same_two refused m j n i h

-- ---- by kind

pub record Test (A : Type 0) : Type 0 where
  pub same : A → A → Bool
  pub is : (a b : A) → T (same a b) → a ≡ b

abbrev pub number_test : Test ℕ
number_test = record { same = eqb; is = eqb→eq }

abbrev pub int_test : Test ℤ
int_test = record { same = same_int; is = same_int_is }

abbrev pub list_test : Test (List ℕ)
list_test = record { same = same_list; is = same_list_is }

abbrev pub verdict_test : Test Verdict
verdict_test = record { same = same_verdict; is = same_verdict_is }

abbrev pub response_test : Test Response
response_test = record { same = same_response; is = same_response_is }

abbrev pub replay_test : Test Replayed
replay_test = record { same = same_replay; is = same_replay_is }

-- what nobody names is never the same: what a table is, a window and a bench
abbrev pub unnamed : {A : Type 0} → Test A
unnamed = record { same = λ a b. false; is = λ a b h. absurd h }
