-- Whole slips: a text is accepted exactly if it is the writing of a slip, refused exactly if the table says so, and what judging it yields.
-- Assumes nothing.
use Prim.Native.Nat.{ℕ, zero, suc, ◌+◌, ◌*◌, ◌/◌, ◌%◌, ◌≤◌, ◌<◌}
use mathlib.Core.Path.{◌≡◌, refl, sym, ap, ◌∙◌, subst}
use mathlib.Core.Logic.{◌↔◌, ◌⊎◌, inl, inr, ◌≢◌}
use mathlib.Core.Bool.{Bool, true, false, cond}
use mathlib.Core.List.{List, [], ◌∷◌, ◌++◌, append_assoc, append-nil}
use native.Mathlib.Omega.{arith}
use lib.Dec.{ltb}
use lib.ListN.{length, length-append}
use borrow.Author.Tests.{ltb-true, ltb-false}
use Rattle.gates.proofs.Every.{every_append}
use Rattle.meaning.specs.Pattern.{has}
use Rattle.text.specs.declared.Refusal.{Refusal}
use Rattle.text.specs.declared.Refusal.TheVariants.{Overlong, Malformed, TooMany}
use Rattle.text.specs.Refusals.{number_of}
use Rattle.text.specs.Reading.{Got, got, none, cut}
use Rattle.text.proofs.Printed.{none_got, nil_cons}
use Rattle.stepping.specs.Slip.{SlipStep, pass_at, merge_at}
use Rattle.habits.specs.Habits.{Judgement, fine, away}
use Rattle.habits.specs.Demands.{numbers, textless}
use Rattle.habits.proofs.Yields.{fine_is, away_is, away_fine, Yields, refuses, ends, yields_follows, Regular, of_text, yields_taken}
use Rattle.sliptext.specs.SlipText.{figures, place_in, slip_line, slip_text, slip_form, slip_lines, slip_judged}
use Rattle.sliptext.specs.Demands.{ShortPlaces, AcceptsSlip, Formless, RefusesSlip, overlong, malformed, too_many}
use Rattle.sliptext.proofs.Printed.{slip_reads, slip_read_only}
use Rattle.sliptext.proofs.Lines.{preceded, preceded_none, preceded_twice, at_end, at_form, at_many, at_bad, judged_overlong, judged_lines}

-- ---- how long a slip is

figures_length : (k i : ℕ) → length (figures k i) ≤ k + 1
unfolding figures
figures_length zero i = omega arith
figures_length (suc k) i = go (ltb i 10) (figures_length k (i / 10))
  where
    go : (t : Bool) → length (figures k (i / 10)) ≤ k + 1 → length (cond t ((48 + i) ∷ []) (figures k (i / 10) ++ ((48 + i % 10) ∷ []))) ≤ suc k + 1
    go true h = omega arith
    go false h = omega (arith, length-append (figures k (i / 10)) ((48 + i % 10) ∷ []))

line_length : (x : SlipStep) → (1 ≤ length (slip_line x)) × (length (slip_line x) ≤ 13)
unfolding slip_line
line_length (pass_at i) = (omega arith, omega (arith, figures_length 3 i, length-append (figures 3 i) (41 ∷ 10 ∷ [])))
line_length (merge_at i) = (omega arith, omega (arith, figures_length 3 i, length-append (figures 3 i) (41 ∷ 10 ∷ [])))

text_length : (ss : List SlipStep) → length (slip_text ss) ≤ 13 * length ss
unfolding slip_text
text_length [] = omega arith
text_length (x ∷ ss) = omega (arith, (line_length x).1, text_length ss, length-append (slip_line x) (slip_text ss))

-- an accepted slip has at most 53,248 bytes: rule 1 lets it pass
pub accepted_bytes : (s : List ℕ) (ss : List SlipStep) → AcceptsSlip s ss → length s ≤ 53248
accepted_bytes s ss a =
    let e = ap (λ (m : List ℕ). length m) a.written in
    let h = a.few in
    omega (arith, text_length ss)

-- ---- the lines of a written slip, where k lines stand before

text_empty : (r : List ℕ) → slip_text [] ++ r ≡ r
unfolding slip_text
text_empty r = refl

text_more : (x : SlipStep) (ss : List SlipStep) (r : List ℕ) → slip_text (x ∷ ss) ++ r ≡ slip_line x ++ (slip_text ss ++ r)
unfolding slip_text
text_more x ss r = append_assoc (slip_line x) (slip_text ss) r

reads_more : (x : SlipStep) (ss : List SlipStep) (r : List ℕ) → ShortPlaces (x ∷ ss) → slip_form (slip_text (x ∷ ss) ++ r) ≡ got x (slip_text ss ++ r)
reads_more x ss r p = ap slip_form (text_more x ss r) ∙ slip_reads x (slip_text ss ++ r) p.0

-- what comes after them is judged next
written_judged : (t k : ℕ) (ss : List SlipStep) (r : List ℕ) → ShortPlaces ss → k + length ss ≤ 4096 → slip_lines t k (cut (slip_text ss ++ r)) ≡ preceded ss (slip_lines t (k + length ss) (cut r))
written_judged t k [] r p h =
    let e : k + 0 ≡ k = omega arith in
    rw (text_empty r, e) (sym (preceded_none (slip_lines t k (cut r))))
written_judged t k (x ∷ ss) r p h =
    let e : k + 1 + length ss ≡ k + suc (length ss) = omega arith in
    at_form t k (slip_text (x ∷ ss) ++ r) x (slip_text ss ++ r) (reads_more x ss r p) (omega arith)
    ∙ ap (preceded (x ∷ [])) (written_judged t (k + 1) ss r p.1 (omega arith))
    ∙ preceded_twice (x ∷ []) ss (slip_lines t (k + 1 + length ss) (cut r))
    ∙ ap (λ (n : ℕ). preceded (x ∷ ss) (slip_lines t n (cut r))) e

-- line 4,097 is one too many
beyond_judged : (t k : ℕ) (ss : List SlipStep) (r : List ℕ) → ShortPlaces ss → k ≤ 4096 → k + length ss ≡ 4097 → slip_lines t k (cut (slip_text ss ++ r)) ≡ away TooMany t 4097
unfolding preceded
beyond_judged t k [] r p h e = absurd (omega arith)
beyond_judged t k (x ∷ ss) r p h e = go (ltb k 4096) refl (λ l. beyond_judged t (k + 1) ss r p.1 (omega arith) (omega arith))
  where
    go : (b : Bool) → ltb k 4096 ≡ b → (k < 4096 → slip_lines t (k + 1) (cut (slip_text ss ++ r)) ≡ away TooMany t 4097) → slip_lines t k (cut (slip_text (x ∷ ss) ++ r)) ≡ away TooMany t 4097
    go true q ih =
        let l = ltb-true k 4096 q in
        at_form t k (slip_text (x ∷ ss) ++ r) x (slip_text ss ++ r) (reads_more x ss r p) l ∙ ap (preceded (x ∷ [])) (ih l)
    go false q ih =
        let l = ltb-false k 4096 q in
        let z : k + 1 ≡ 4097 = omega arith in
        at_many t k (slip_text (x ∷ ss) ++ r) x (slip_text ss ++ r) (reads_more x ss r p) l ∙ ap (away TooMany t) z

-- ---- the lines of any text, where k lines stand before

data Outcome (t k : ℕ) (s : List ℕ) : Judgement (List SlipStep) → Type 0 where
  all_formed : (ss : List SlipStep) → s ≡ slip_text ss → ShortPlaces ss → k + length ss ≤ 4096 → Outcome t k s (fine ss)
  one_unformed : (ss : List SlipStep) (r : List ℕ) (l : ℕ) → s ≡ slip_text ss ++ r → ShortPlaces ss → k + length ss ≤ 4096 → r ≢ [] → Formless r → l ≡ k + length ss + 1 → Outcome t k s (away Malformed t l)
  one_beyond : (ss : List SlipStep) (r : List ℕ) → s ≡ slip_text ss ++ r → ShortPlaces ss → k + length ss ≡ 4097 → Outcome t k s (away TooMany t 4097)

-- after one line more
later : (t k : ℕ) (x : SlipStep) (r : List ℕ) → ShortPlaces (x ∷ []) → {v : Judgement (List SlipStep)} → Outcome t (k + 1) r v → Outcome t k (slip_line x ++ r) (preceded (x ∷ []) v)
unfolding preceded slip_text
later t k x r p (all_formed ss q z n) = all_formed (x ∷ ss) (ap (λ (m : List ℕ). slip_line x ++ m) q) (p.0, z) (omega arith)
later t k x r p (one_unformed ss u l q z n i j g) = one_unformed (x ∷ ss) u l (ap (λ (m : List ℕ). slip_line x ++ m) q ∙ sym (text_more x ss u)) (p.0, z) (omega arith) i j (omega arith)
later t k x r p (one_beyond ss u q z n) = one_beyond (x ∷ ss) u (ap (λ (m : List ℕ). slip_line x ++ m) q ∙ sym (text_more x ss u)) (p.0, z) (omega arith)

at_last : (t k : ℕ) → k ≤ 4096 → Outcome t k [] (slip_lines t k (cut []))
unfolding slip_text
at_last t k h = rw (sym (preceded_none (slip_lines t k (cut []))) ∙ at_end t k []) (all_formed [] refl tt (omega arith))

-- one of the three
outcome : (fuel t k : ℕ) (s : List ℕ) → length s ≤ fuel → k ≤ 4096 → Outcome t k s (slip_lines t k (cut s))
unfolding slip_text
outcome zero t k [] f h = at_last t k h
outcome zero t k (b ∷ s) f h = absurd (omega arith)
outcome (suc fuel) t k [] f h = at_last t k h
outcome (suc fuel) t k (b ∷ s) f h = go (slip_form (b ∷ s)) refl (λ r q l. outcome fuel t (k + 1) r q l)
  where
    in_form : (x : SlipStep) (r : List ℕ) → slip_form (b ∷ s) ≡ got x r → (c : Bool) → ltb k 4096 ≡ c → (k < 4096 → Outcome t (k + 1) r (slip_lines t (k + 1) (cut r))) → Outcome t k (b ∷ s) (slip_lines t k (cut (b ∷ s)))
    in_form x r e true c ih =
        let l = ltb-true k 4096 c in
        let z = slip_read_only (b ∷ s) x r e in
        rw (at_form t k (b ∷ s) x r e l) (subst (λ (m : List ℕ). Outcome t k m (preceded (x ∷ []) (slip_lines t (k + 1) (cut r)))) (sym z.0) (later t k x r (z.1, tt) (ih l)))
    in_form x r e false c ih =
        let l = ltb-false k 4096 c in
        let z = slip_read_only (b ∷ s) x r e in
        let n : k + 1 ≡ 4097 = omega arith in
        rw (at_many t k (b ∷ s) x r e l ∙ ap (away TooMany t) n) (one_beyond (x ∷ []) r (z.0 ∙ ap (λ (m : List ℕ). m ++ r) (sym (append-nil (slip_line x)))) (z.1, tt) (omega arith))

    shorter : (x : SlipStep) (r : List ℕ) → slip_form (b ∷ s) ≡ got x r → length r ≤ fuel
    shorter x r e =
        let w = ap (λ (m : List ℕ). length m) (slip_read_only (b ∷ s) x r e).0 in
        omega (arith, w, (line_length x).0, length-append (slip_line x) r)

    go : (g : Got SlipStep) → slip_form (b ∷ s) ≡ g → ((r : List ℕ) → length r ≤ fuel → k + 1 ≤ 4096 → Outcome t (k + 1) r (slip_lines t (k + 1) (cut r))) → Outcome t k (b ∷ s) (slip_lines t k (cut (b ∷ s)))
    go none e ih =
        rw (at_bad t k b s e) (one_unformed [] (b ∷ s) (k + 1) refl tt (omega arith) (λ q. nil_cons (sym q)) (λ x q p c. none_got (sym e ∙ ap slip_form c ∙ slip_reads x q p)) (omega arith))
    go (got x r) e ih = in_form x r e (ltb k 4096) refl (λ l. ih r (shorter x r e) (omega arith))

-- ---- the text s of number t

module _ (t : ℕ) (s : List ℕ) where
  -- by the table, or by its steps
  data Judges (v : Judgement (List SlipStep)) : Type 0 where
    refused : (r : Refusal) (l : ℕ) → v ≡ away r t l → RefusesSlip s (number_of r) l → Judges v
    accepted : (ss : List SlipStep) → v ≡ fine ss → AcceptsSlip s ss → Judges v

  by_lines : {v : Judgement (List SlipStep)} → length s ≤ 60000 → Outcome t 0 s v → Judges v
  by_lines h (all_formed ss q z n) = accepted ss refl (record { written = q; places = z; few = omega arith })
  by_lines h (one_unformed ss r l q z n i j g) = let e : l ≡ length ss + 1 = omega arith in refused Malformed l refl (rw e (malformed h ss r q z (omega arith) i j))
  by_lines h (one_beyond ss r q z n) = refused TooMany 4097 refl (too_many h ss r q z (omega arith))

  -- always one of the two
  judges : Judges (slip_judged t s)
  judges = go (ltb 60000 (length s)) refl
    where
      go : (b : Bool) → ltb 60000 (length s) ≡ b → Judges (slip_judged t s)
      go true e = let h = ltb-true 60000 (length s) e in refused Overlong 0 (judged_overlong t s h) (overlong h)
      go false e = let h = ltb-false 60000 (length s) e in rw (judged_lines t s h) (by_lines h (outcome (length s) t 0 s (omega arith) (omega arith)))

  formless : (k : ℕ) (r : List ℕ) → r ≢ [] → Formless r → slip_lines t k (cut r) ≡ away Malformed t (k + 1)
  formless k [] i j = absurd (i refl)
  formless k (b ∷ r) i j = at_bad t k b r (go (slip_form (b ∷ r)) refl)
    where
      go : (g : Got SlipStep) → slip_form (b ∷ r) ≡ g → slip_form (b ∷ r) ≡ none
      go none e = e
      go (got x q) e = let z = slip_read_only (b ∷ r) x q e in absurd (j x q z.1 z.0)

  -- each row of the table
  refused_away : {n l : ℕ} → RefusesSlip s n l → (r : Refusal) × (slip_judged t s ≡ away r t l) × (number_of r ≡ n)
  unfolding preceded
  refused_away (overlong h) = (Overlong, judged_overlong t s h, refl)
  refused_away (malformed h ss r q p f i j) =
      let e : 0 + length ss + 1 ≡ length ss + 1 = omega arith in
      (Malformed, judged_lines t s h ∙ ap (λ (m : List ℕ). slip_lines t 0 (cut m)) q ∙ written_judged t 0 ss r p (omega arith) ∙ ap (preceded ss) (formless (0 + length ss) r i j ∙ ap (away Malformed t) e), refl)
  refused_away (too_many h ss r q p f) = (TooMany, judged_lines t s h ∙ ap (λ (m : List ℕ). slip_lines t 0 (cut m)) q ∙ beyond_judged t 0 ss r p (omega arith) (omega arith), refl)

  -- a slip is refused with a number and a line, and its own text number, exactly if the table says so
  pub refuses_slip_exactly_if : (n l : ℕ) → RefusesSlip s n l ↔ ((r : Refusal) × (slip_judged t s ≡ away r t l) × (number_of r ≡ n))
  refuses_slip_exactly_if n l = (refused_away, λ (r, e, i). go r e i judges)
    where
      go : (r : Refusal) → slip_judged t s ≡ away r t l → number_of r ≡ n → Judges (slip_judged t s) → RefusesSlip s n l
      go r e i (refused q m f d) = let z = away_is (sym f ∙ e) in rw (← i, ← z.0, ← z.2) d
      go r e i (accepted ss f a) = absurd (away_fine (sym e ∙ f))

  -- it is accepted with these steps exactly if it is the writing of them
  pub accepts_slip_exactly_if : (ss : List SlipStep) → AcceptsSlip s ss ↔ (slip_judged t s ≡ fine ss)
  accepts_slip_exactly_if ss = (back, λ e. go e judges)
    where
      back : AcceptsSlip s ss → slip_judged t s ≡ fine ss
      back a =
          let h = accepted_bytes s ss a in
          let f = a.few in
          let q : s ≡ slip_text ss ++ [] = a.written ∙ sym (append-nil (slip_text ss)) in
          judged_lines t s (omega arith) ∙ ap (λ (m : List ℕ). slip_lines t 0 (cut m)) q ∙ written_judged t 0 ss [] a.places (omega arith) ∙ at_end t (0 + length ss) ss

      go : slip_judged t s ≡ fine ss → Judges (slip_judged t s) → AcceptsSlip s ss
      go e (refused r l f d) = absurd (away_fine (sym f ∙ e))
      go e (accepted xs f a) = subst (AcceptsSlip s) (fine_is (sym f ∙ e)) a

-- every text is refused as a slip or accepted
pub refuses_or_accepts_slip : (s : List ℕ) → ((n : ℕ) × (l : ℕ) × RefusesSlip s n l) ⊎ ((ss : List SlipStep) × AcceptsSlip s ss)
refuses_or_accepts_slip s = go (judges 1 s)
  where
    go : {v : Judgement (List SlipStep)} → Judges 1 s v → ((n : ℕ) × (l : ℕ) × RefusesSlip s n l) ⊎ ((ss : List SlipStep) × AcceptsSlip s ss)
    go (refused r l e d) = inl (number_of r, l, d)
    go (accepted ss e a) = inr (ss, a)

-- a number of the table is not 0
pub some_number : {s : List ℕ} {n l : ℕ} → RefusesSlip s n l → 1 ≤ n
some_number (overlong h) = omega arith
some_number (malformed h ss r q p f i j) = omega arith
some_number (too_many h ss r q p f) = omega arith

-- ---- two slips, one after the other

text_append : (xs ys : List SlipStep) → slip_text (xs ++ ys) ≡ slip_text xs ++ slip_text ys
unfolding slip_text
text_append [] ys = refl
text_append (x ∷ xs) ys = ap (λ (m : List ℕ). slip_line x ++ m) (text_append xs ys) ∙ sym (append_assoc (slip_line x) (slip_text xs) (slip_text ys))

-- they are a slip where they have together at most 4,096 lines
pub accepts_both : {s t : List ℕ} {ss ts : List SlipStep} → AcceptsSlip s ss → AcceptsSlip t ts → length ss + length ts ≤ 4096 → AcceptsSlip (s ++ t) (ss ++ ts)
accepts_both {s} {t} {ss} {ts} a b h = record {
  written = rw (a.written, b.written) (sym (text_append ss ts));
  places = every_append (λ x. place_in x < 10000) ss ts a.places b.places;
  few = omega (arith, h, length-append ss ts);
}

-- ---- in a job over so many texts: the refusals are 1, 3 and 9, of this text

module _ (own : List ℕ) (texts t : ℕ) (low : 1 ≤ t) (high : t ≤ texts) where
  of_malformed : (l : ℕ) → Regular own texts Malformed t l
  unfolding has numbers textless
  of_malformed l = of_text refl refl low high (λ y. absurd (omega arith))

  of_too_many : (l : ℕ) → Regular own texts TooMany t l
  unfolding has numbers textless
  of_too_many l = of_text refl refl low high (λ y. absurd (omega arith))

  yields_lines : (s : List ℕ) {v : Judgement (List SlipStep)} → Outcome t 0 s v → Yields (Regular own texts) (λ ss. length ss ≤ 4096) v
  yields_lines s (all_formed ss q z n) = let h : length ss ≤ 4096 = omega arith in ends h
  yields_lines s (one_unformed ss r l q z n i j g) = refuses (of_malformed l)
  yields_lines s (one_beyond ss r q z n) = refuses (of_too_many 4097)

  pub yields_slip : (s : List ℕ) → Yields (Regular own texts) (λ ss. (length ss ≤ 4096) × (length s ≤ 60000)) (slip_judged t s)
  unfolding slip_judged
  yields_slip s = yields_follows (yields_taken own texts t low high s [] (yields_lines s (outcome (length s) t 0 s (omega arith) (omega arith)))) (λ ss h. (h.0, h.1.small))
