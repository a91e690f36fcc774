-- What the covered part of a job hands over makes the job say what it should: of the gate list that needs only its length. Assumes nothing.
use mathlib.Core.Path.{◌≡◌, refl, sym, ap, ◌∙◌, subst}
use mathlib.Core.Bool.{Bool, true, false, cond, true≢false}
use mathlib.Core.List.{List, [], ◌∷◌, ◌++◌}
use Prim.Native.Nat.{ℕ, zero, suc, ◌≤◌, ◌<◌}
use native.Mathlib.Omega.{arith}
use lib.ListN.{length, take, drop, length-take}
use lib.Seq.{take-take}
use lib.Dec.{eqb, ltb}
use borrow.Author.Tests.{ne_eqb, lt-ltb, le-ltb}
use Rattle.gates.specs.declared.Gate.{Gate}
use Rattle.gates.specs.Code.{gates}
use Rattle.gates.proofs.CodeLists.{length_gates, all_codes_take}
use Rattle.records.specs.declared.Done.{Done}
use Rattle.records.specs.declared.Outcome.{Outcome}
use Rattle.records.specs.Records.{filled_by}
use Rattle.text.specs.declared.Refusal.{Refusal}
use Rattle.text.specs.declared.Refusal.TheVariants.{ShortAnswer}
use Rattle.text.specs.declared.Head.{Head}
use Rattle.text.specs.Refusals.{number_of}
use Rattle.text.specs.declared.Kind.{Kind}
use Rattle.text.specs.declared.Kind.TheVariants.{Cascade, Circuit}
use Rattle.text.specs.Judging.{Judged, turned_away, accepted, first, or_else, judge}
use Rattle.loading.specs.declared.Loaded.{Loaded}
use Rattle.std.proofs.Common.{Result, Ok, Err}
use Rattle.text.specs.declared.Refused.{Refused}
use Rattle.records.specs.declared.Outcome.{Outcome}
use Rattle.rules.specs.Verdicts.{seen_verdict}
use Rattle.loading.specs.Loaded.{Renderable, Accepts}
use Rattle.reduction.specs.Reducing.{ReducedTo}
use Rattle.habits.specs.Habits as habits
use Rattle.habits.specs.Habits.{size_rules, filled, all_filled, Judgement, fine, away, Lent, Answer}
use Rattle.jobs.specs.Jobs.{Job, mapping, takes, Output, as_text, as_count, output, writes, Exit, refusal, judged, judged_text, success, written, answered, Settled, Says}
use Rattle.jobs.proofs.One.{text_passed, passed_valid}
use Rattle.outcomes.proofs.Outcomes.{refusal_list, success_list, refusal_settles}
use Rattle.outcomes.specs.Outcomes.{limit_of, Settles, success_filling, refused, refused_two, succeeded_two, succeeded, with_text}
use Rattle.jobs.specs.Handing.{exit_of, HandsOne, Hands, exit_of_text, HandsText, AcceptsReduced, LoadsReduced, HandsTwo, text_of, written_done, written_area, quotes, put_done, put_area, loaded_done, loaded_area, Answerable}

-- ---- the gate list

-- what is handed over with success can be written into it
pub success_settles : {h : Head} {m : ℕ} (room : ℕ) {codes : List ℕ} → Renderable h m codes → 4096 ≤ room → Settles 0 room (success_filling m room codes)
unfolding success_filling limit_of
success_settles room w l = record { fits = record { there = w.few; valid = w.codes; few = omega (arith, l, w.few); within = omega arith }; limit = refl }

-- ---- the answer area

pub too_short : (h : Head) (m room size : ℕ) (codes a : List ℕ) → size ≡ length (text_of h m codes) → length a < size → (refused ShortAnswer 0 room codes ≡ written_done h m room codes a) × (a ≡ written_area h m codes a)
unfolding written_done written_area
too_short h m room size codes a e l = let q = lt-ltb (length a) (length (text_of h m codes)) (omega (arith, e, l)) in (rw q, rw q)

pub long_enough : (h : Head) (m room size bytes : ℕ) (codes a b : List ℕ) → size ≡ length (text_of h m codes) → size ≤ length a → bytes ≡ length (text_of h m codes)
    → b ≡ text_of h m codes ++ drop bytes a → (succeeded m bytes room codes ≡ written_done h m room codes a) × (b ≡ written_area h m codes a)
unfolding written_done written_area
long_enough h m room size bytes codes a b e l k w = let q = le-ltb (length a) (length (text_of h m codes)) (omega (arith, e, l)) in (rw (q, k), w ∙ rw (q, k))

-- ---- what the job says

-- what is handed over with a refusal leads to its exit
refused_exit : (r : Refusal) (i room : ℕ) (s a codes : List ℕ) (l : List Gate) → length l ≡ room → exit_of (refused r i room codes).outcome (filled_by (refused r i room codes).filling l) a ≡ refusal r i (record { text = s; list = l; area = a })
unfolding refusal refused
refused_exit r i room s a codes l e = ap (λ (t : List Gate). record { number = number_of r; line = i; gates = 0; bytes = 0; list = t; area = a }) (refusal_list r room codes l e)

-- a job that answers as j does, of a text s that is judged so, by the number of records of the list
module _ (j : Job) (judged_by : ℕ → Judged) (s a : List ℕ) where
  abbrev pub SettledBy : List Gate → Exit → Type 0
  SettledBy l x = Settled j (record { text = s; list = l; area = a }) (judged_by (length l)) x

  -- of every list of that length the text is judged the same
  settled : (l : List Gate) {room : ℕ} {d : Judged} (x : Exit) → length l ≡ room → judged_by room ≡ d → Settled j (record { text = s; list = l; area = a }) d x → SettledBy l x
  settled l x e q w = subst (λ (g : Judged). Settled j (record { text = s; list = l; area = a }) g x) (sym (ap judged_by e ∙ q)) w

  -- a refusal by what was judged
  refused_hands : (codes : List ℕ) (room i : ℕ) (r : Refusal) → judged_by room ≡ turned_away r i → HandsOne SettledBy room (refused r i room codes) a
  unfolding Settled refused
  refused_hands codes room i r q = record { settles = refusal_settles r room codes; tells = λ l e. settled l _ e q (refused_exit r i room s a codes l e) }

  -- of a text that was loaded into the codes, and its circuit reduced
  module _ (codes : List ℕ) (room : ℕ) (enough : 4096 ≤ room) (h : Head) (m : ℕ) (all : length codes ≡ 4096) (w : AcceptsReduced (judged_by room) codes h m) where
    -- whatever leads to the answer by the loaded list
    answers : (d : Done Outcome) (b : List ℕ) → Settles d.outcome.number room d.filling → ((l : List Gate) → length l ≡ room → exit_of d.outcome (filled_by d.filling l) b ≡ answered j (record { text = s; list = l; area = a }) h (gates (take m codes))) → HandsOne SettledBy room d b
    unfolding Settled
    answers d b f q = record { settles = f; tells = λ l e. settled l _ e w.judged (gates (take m codes), w.reduced, q l e) }

    settles : Settles 0 room (success_filling m room codes)
    settles = success_settles room w.renderable enough

    -- what is handed over with success leads to its exit
    succeeded_exit : (n : ℕ) (b : List ℕ) (l : List Gate) → length l ≡ room → exit_of (succeeded m n room codes).outcome (filled_by (succeeded m n room codes).filling l) b ≡ success (record { text = s; list = l; area = a }) (gates (take m codes)) n b
    unfolding succeeded
    succeeded_exit n b l e =
        let few : m ≤ length codes = omega (arith, w.renderable.few, all) in
        let counted : m ≡ length (gates (take m codes)) = omega (arith, length_gates (take m codes), length-take m codes, few) in
        ap (λ (t : List Gate). record { number = 0; line = 0; gates = m; bytes = n; list = t; area = b }) (success_list m room codes l few e)
        ∙ ap (λ (i : ℕ). record { number = 0; line = 0; gates = i; bytes = n; list = filled (gates (take m codes)) l; area = b }) counted

    -- the count alone
    quoted_hands : output j (length a) ≡ as_count → HandsOne SettledBy room (succeeded m 0 room codes) a
    unfolding answered succeeded
    quoted_hands i = answers (succeeded m 0 room codes) a settles (λ l e. rw i (succeeded_exit 0 a l e))

    -- the text, where the area has room for it
    written_hands : output j (length a) ≡ as_text → HandsOne SettledBy room (written_done h m room codes a) (written_area h m codes a)
    unfolding written_done written_area written answered refused succeeded
    written_hands i = go (ltb (length a) (length (text_of h m codes))) refl
      where
        go : (b : Bool) → ltb (length a) (length (text_of h m codes)) ≡ b → HandsOne SettledBy room (cond b (refused ShortAnswer 0 room codes) (succeeded m (length (text_of h m codes)) room codes)) (cond b a (text_of h m codes ++ drop (length (text_of h m codes)) a))
        go true q = answers (refused ShortAnswer 0 room codes) a (refusal_settles ShortAnswer room codes) (λ l e. rw (i, q) (refused_exit ShortAnswer 0 room s a codes l e))
        go false q = answers (succeeded m (length (text_of h m codes)) room codes) (text_of h m codes ++ drop (length (text_of h m codes)) a) settles
            (λ l e. rw (i, q) (succeeded_exit (length (text_of h m codes)) _ l e))

    -- as the job puts it out
    put_hands : (o : Output) → output j (length a) ≡ o → HandsOne SettledBy room (put_done o h m room codes a) (put_area o h m codes a)
    put_hands as_text i = written_hands i
    put_hands as_count i = quoted_hands i

  -- by the reduced list, or the refusal
  pub loaded_by : (codes : List ℕ) (room : ℕ) (x : Result Loaded Refused) → length codes ≡ 4096 → ((h : Head) (c : List Gate) → judged_by room ≡ accepted h c → 4096 ≤ room) → LoadsReduced (judged_by room) codes x
      → let o = output j (length a) in HandsOne SettledBy room (loaded_done o x room codes a) (loaded_area o x codes a)
  loaded_by codes room (Ok x) all enough w = put_hands codes room (enough x.head _ w.judged) x.head x.gates all w (output j (length a)) refl
  loaded_by codes room (Err e) all enough w = refused_hands codes room e.line e.refusal w

-- ---- a text that was loaded, and its circuit reduced

pub reduces : (k : Kind) (s : List ℕ) (room : ℕ) {codes codes' : List ℕ} {h : Head} {m r : ℕ} → Accepts (judged_text k s room) codes h m → ReducedTo codes m r codes' → AcceptsReduced (judged_text k s room) codes' h r
reduces k s room {codes} {h = h} {m} w x = record {
  circuit = gates (take m codes);
  judged = w.judged;
  reduced = x.reduced h.lines (passed_valid (text_passed k s room w.judged));
  renderable = record { narrow = w.renderable.narrow; few = omega (arith, w.renderable.few, x.within); codes = x.codes };
}

-- ---- by the reduced list, or the refusal

pub answerable : (j : Judged) (codes : List ℕ) (x : Result Loaded Refused) → LoadsReduced j codes x → Answerable x codes
answerable j codes (Ok x) w = w.renderable
answerable j codes (Err e) w = tt

-- fewer of the codes can be written too
pub fewer : {h : Head} {m k : ℕ} {codes : List ℕ} → k ≤ m → Renderable h m codes → Renderable h k codes
fewer {m = m} {k} {codes} l w = record { narrow = w.narrow; few = omega (arith, w.few); codes = rw (← take-take k m codes l) (all_codes_take 32 k (take m codes) w.codes) }

-- map puts the count out alone if the area is empty
pub quotes_mapping : (n : ℕ) → eqb n 0 ≡ quotes (output mapping n)
quotes_mapping zero = refl
quotes_mapping (suc n) = ne_eqb (suc n) 0 (λ z. omega (arith, z))

-- the count is put out alone, or not
pub only_quotes : (o : Output) → quotes o ≡ true → o ≡ as_count
only_quotes as_text e = absurd (true≢false (sym e))
only_quotes as_count e = refl

pub also_writes : (o : Output) → quotes o ≡ false → o ≡ as_text
also_writes as_text e = refl
also_writes as_count e = absurd (true≢false e)

-- the job over a text of this kind takes such a text
takes_writes : (k : Kind) → takes (writes k) ≡ k
unfolding takes
takes_writes Cascade = refl
takes_writes Circuit = refl

pub loaded_hands : (k : Kind) (s a codes : List ℕ) (room : ℕ) (x : Result Loaded Refused) → length codes ≡ 4096 → LoadsReduced (judged_text k s room) codes x
    → let o = output (writes k) (length a) in Hands (writes k) s room a (loaded_done o x room codes a) (loaded_area o x codes a)
unfolding Says judged
loaded_hands k s a codes room x e w = loaded_by (writes k) (judged_text (takes (writes k)) s) s a codes room x e (λ h c q. (text_passed (takes (writes k)) s room q).room) (rw (← takes_writes k) at w)

-- ---- jobs over several texts, one gate list and an answer area

-- what is judged by the length of the list, and the answers that are right for it
module _ {A : Type 0} (judged_by : ℕ → Judgement A) (Right : A → Answer → Type 0) (a : List ℕ) where
  abbrev with_list : List Gate → Lent
  with_list l = record { lists = l ∷ []; area = a }

  abbrev SaysText : List Gate → habits.Exit → Type 0
  SaysText l x = habits.Says (judged_by (length l)) Right (with_list l) x

  -- of every list of this length the texts are judged the same
  says_text : (l : List Gate) {room : ℕ} {v : Judgement A} (x : habits.Exit) → length l ≡ room → judged_by room ≡ v → habits.Says v Right (with_list l) x → SaysText l x
  says_text l x e q w = subst (λ (u : Judgement A). habits.Says u Right (with_list l) x) (sym (ap judged_by e ∙ q)) w

  refused_text_exit : (r : Refusal) (t i room : ℕ) (codes : List ℕ) (l : List Gate) → length l ≡ room → exit_of_text (with_text t (refused r i room codes)).outcome (filled_by (refused r i room codes).filling l) a ≡ habits.refusal r t i (with_list l)
  unfolding with_text refused habits.refusal
  refused_text_exit r t i room codes l e = rw (refusal_list r room codes l e)

  pub refused_text_hands : (r : Refusal) (t i room : ℕ) (codes : List ℕ) → judged_by room ≡ away r t i → HandsText SaysText room (with_text t (refused r i room codes)) a
  unfolding with_text refused habits.Says
  refused_text_hands r t i room codes q = record { settles = refusal_settles r room codes; tells = λ l e. says_text l _ e q (refused_text_exit r t i room codes l e) }

  -- the first m codes as a text, where that is right
  module _ (h : Head) (m room : ℕ) (codes : List ℕ) (b : A) (q : judged_by room ≡ fine b)
      (right : Right b (record { count = length (text_of h m codes); circuits = gates (take m codes) ∷ []; text = text_of h m codes }))
      (all : length codes ≡ 4096) (w : Renderable h m codes) (enough : 4096 ≤ room) where
    pub written_text_hands : HandsText SaysText room (with_text 0 (written_done h m room codes a)) (written_area h m codes a)
    unfolding with_text written_done written_area refused succeeded habits.Says habits.answered habits.success all_filled
    written_text_hands = go (ltb (length a) (length (text_of h m codes))) refl
      where
        go : (b : Bool) → ltb (length a) (length (text_of h m codes)) ≡ b → HandsText SaysText room (with_text 0 (cond b (refused ShortAnswer 0 room codes) (succeeded m (length (text_of h m codes)) room codes))) (cond b a (text_of h m codes ++ drop (length (text_of h m codes)) a))
        go true z = record { settles = refusal_settles ShortAnswer room codes; tells = λ l e. says_text l _ e q (_, right, rw z (refused_text_exit ShortAnswer 0 0 room codes l e)) }
        go false z = record { settles = success_settles room w enough; tells = λ l e. says_text l _ e q (_, right, rw (z, success_list m room codes l (omega (arith, w.few, all)) e)) }

-- ---- jobs over two gate lists, without an answer area

-- what is judged by the lengths of the lists, and the answers that are right for it
module _ {A : Type 0} (judged_by : ℕ → ℕ → Judgement A) (Right : A → Answer → Type 0) where
  abbrev lent : List Gate → List Gate → Lent
  lent l k = record { lists = l ∷ k ∷ []; area = [] }

  abbrev SaysTwo : List Gate → List Gate → habits.Exit → Type 0
  SaysTwo l k x = habits.Says (judged_by (length l) (length k)) Right (lent l k) x

  -- of every two lists of these lengths the texts are judged the same
  says_two : (l k : List Gate) {room room' : ℕ} {v : Judgement A} (x : habits.Exit) → length l ≡ room → length k ≡ room' → judged_by room room' ≡ v → habits.Says v Right (lent l k) x → SaysTwo l k x
  says_two l k x e f q w = subst (λ (u : Judgement A). habits.Says u Right (lent l k) x) (sym (rw (e, f) q)) w

  pub refused_two_hands : (r : Refusal) (t i room room' : ℕ) (codes codes' : List ℕ) → judged_by room room' ≡ away r t i → HandsTwo SaysTwo room room' (refused_two r t i room room' codes codes')
  unfolding refused_two habits.Says habits.refusal
  refused_two_hands r t i room room' codes codes' q = record {
    first = refusal_settles r room codes;
    second = refusal_settles r room' codes';
    tells = λ l k e f. says_two l k _ e f q (rw (refusal_list r room codes l e, refusal_list r room' codes' k f));
  }

  pub succeeded_two_hands : {g h : Head} (m n count room room' : ℕ) (codes codes' : List ℕ) (a : A) → judged_by room room' ≡ fine a
      → Right a (record { count = count; circuits = gates (take m codes) ∷ gates (take n codes') ∷ []; text = [] })
      → length codes ≡ 4096 → length codes' ≡ 4096 → Renderable g m codes → Renderable h n codes' → 4096 ≤ room → 4096 ≤ room'
      → HandsTwo SaysTwo room room' (succeeded_two m n count room room' codes codes')
  unfolding succeeded_two habits.Says habits.answered habits.success all_filled
  succeeded_two_hands m n count room room' codes codes' a q right all all' w w' b b' = record {
    first = success_settles room w b;
    second = success_settles room' w' b';
    tells = λ l k e f. says_two l k _ e f q (_, right, rw (success_list m room codes l (omega (arith, w.few, all)) e, success_list n room' codes' k (omega (arith, w'.few, all')) f));
  }

-- ---- rules 1 and 2

pub sized : (k : Kind) (s : List ℕ) (room : ℕ) {A : Type 0} {v w : Result A Refusal} → v ≡ w → seen_verdict v ≡ first (size_rules (length s) (room ∷ [])) → judged_text k s room ≡ or_else (seen_verdict w) 0 (judge k s)
unfolding judged_text
sized k s room e q = rw (← q, ← e)
