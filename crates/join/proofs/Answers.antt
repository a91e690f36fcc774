-- What the job left in the area, and what was written into it then, is what the program writes. Assumes nothing.
use mathlib.Core.Path.{◌≡◌, refl, sym, ap, ◌∙◌, subst}
use mathlib.Core.Logic.{◌≢◌}
use mathlib.Core.List.{List, [], ◌∷◌, ◌++◌}
use Prim.Native.Nat.{ℕ, ◌≤◌}
use native.Mathlib.Omega.{arith}
use lib.ListN.{length, drop, replicate, length-replicate}
use borrow.Author.Tests.{le-ltb}
use Rattle.gates.specs.declared.Gate.{Gate}
use Rattle.gates.specs.declared.Gate.TheVariants.{Not}
use Rattle.gates.specs.Circuit.{done}
use Rattle.gates.specs.Reduced.{Reduced}
use Rattle.text.specs.declared.Refusal.{Refusal}
use Rattle.text.specs.Refusals.{number_of}
use Rattle.text.specs.Text.{circuit_text}
use Rattle.text.proofs.Longest.{text_length}
use Rattle.forms.specs.Forms.{text_turned_away}
use Rattle.habits.specs.Habits.{Judgement, fine, away, Circuit, Lent, Exit, Answer, refusal, success, answered, Says}
use Rattle.habits.proofs.Says.{says_away, says_fine}
use Rattle.habits.proofs.Yields.{yields_fine}
use Rattle.records.specs.declared.TextOutcome.{TextOutcome}
use Rattle.records.specs.declared.Done.{Done}
use Rattle.records.specs.Records.{filled_by}
use Rattle.jobs.specs.Jobs.{as_text}
use Rattle.jobs.specs.Habits.{answer, Right}
use Rattle.jobs.specs.Handing.{exit_of_text}
use Rattle.demands.proofs.Numbers.{from_1}
use Rattle.joins.specs.Join.{judged, Join, Hands}
use Rattle.joins.proofs.One.{yields_judged}
use Rattle.console.specs.Output.{answer_bytes, Fronts, Answers}
use Rattle.join.specs.Output.{PrintsBy, Prints}

-- ---- what the job left of the area a, with its outcome o, for the texts s and t and a list of 4,096 records

data Left (s t a : List ℕ) (o : TextOutcome) (b : List ℕ) : Type 0 where
  -- the area is as it was
  refused : {r : Refusal} {u l : ℕ} → judged s 4096 t ≡ away r u l → o.number ≡ number_of r → o.line ≡ l → o.text ≡ u → b ≡ a → Left s t a o b
  joined : {c : Circuit} {r : List Gate} → judged s 4096 t ≡ fine c → Reduced c.lines c.gates r → o.number ≡ 0 → Fronts a o.count b (circuit_text c.lines r) → Left s t a o b

-- a text at the front, by its own length
stands : {a b w : List ℕ} {n : ℕ} → n ≡ length w → b ≡ w ++ drop (length w) a → Fronts a n b w
stands {a} {w = w} e f = record { number = e; bytes = f ∙ ap (λ (k : ℕ). w ++ drop k a) (sym e) }

-- so it does by what its covered part hands over, where the area is long enough
left : (s t a : List ℕ) (h : Done TextOutcome) (b : List ℕ) → answer_bytes ≤ length a → Hands s 4096 t a h b → Left s t a h.outcome b
unfolding Join refusal answered success
left s t a h b room w = go (judged s 4096 t) refl
  where
    list : List Gate
    list = replicate 4096 (Not 0)

    lent : Lent
    lent = record { lists = list ∷ []; area = a }

    x : Exit
    x = exit_of_text h.outcome (filled_by h.filling list) b

    says : Says (judged s 4096 t) (Right as_text) lent x
    says = let e = length-replicate 4096 (Not 0) in subst (λ (n : ℕ). Says (judged s n t) (Right as_text) lent x) e (w.tells list e)

    go : (v : Judgement Circuit) → judged s 4096 t ≡ v → Left s t a h.outcome b
    go (away r u l) q =
        let y = says_away (judged s 4096 t) (Right as_text) lent says q in
        refused q (ap (λ (i : Exit). i.number) y) (ap (λ (i : Exit). i.line) y) (ap (λ (i : Exit). i.text) y) (ap (λ (i : Exit). i.lent.area) y)
    go (fine c) q =
        let (z, (r, i, e), y) = says_fine (judged s 4096 t) (Right as_text) lent says q in
        let f = (yields_fine (yields_judged s 4096 t) q).0.few in
        let fits : length (circuit_text c.lines r) ≤ length a = omega (arith, room, text_length c.lines r, i.fewest c.gates done, f) in
        let w = y ∙ ap (λ (d : Answer). answered d lent) e in
        let k : x ≡ success (answer as_text c.lines r) lent = rw (le-ltb (length a) (length (circuit_text c.lines r)) fits) at w in
        joined q i (ap (λ (d : Exit). d.number) k) (stands (ap (λ (d : Exit). d.count) k) (ap (λ (d : Exit). d.lent.area) k))

-- ---- what is written then

-- a refusal with its line and its text number
prints_refusal : (s t : List ℕ) {r : Refusal} {u l : ℕ} → judged s 4096 t ≡ away r u l → Prints s t (text_turned_away (number_of r) l u)
unfolding Prints PrintsBy
prints_refusal s t {r} {u} {l} q = subst (λ (v : Judgement Circuit). PrintsBy v (text_turned_away (number_of r) l u)) (sym q) refl

-- the circuit text of the join
prints_success : (s t : List ℕ) {c : Circuit} {r : List Gate} → judged s 4096 t ≡ fine c → Reduced c.lines c.gates r → Prints s t (circuit_text c.lines r)
unfolding Prints PrintsBy
prints_success s t {c} {r} q z = subst (λ (v : Judgement Circuit). PrintsBy v (circuit_text c.lines r)) (sym q) (r, z, refl)

-- the contract of `answer`, by what was handed over and what was then written at the front of the area
module _ (s t a : List ℕ) (h : Done TextOutcome) (b : List ℕ) (room : answer_bytes ≤ length a) (hands : Hands s 4096 t a h b) where
  -- the refusal
  pub refusal_answers : {n : ℕ} {e : List ℕ} → h.outcome.number ≢ 0 → Fronts b n e (text_turned_away h.outcome.number h.outcome.line h.outcome.text) → Answers (Prints s t) a n e
  refusal_answers {n} {e} z f = go (left s t a h b room hands)
    where
      go : Left s t a h.outcome b → Answers (Prints s t) a n e
      go (refused q i j k y) = record { written = _; prints = prints_refusal s t q; fronts = rw (i, j, k, y) at f }
      go (joined q w i j) = absurd (z i)

  -- the success, which stands there already
  pub success_answers : h.outcome.number ≡ 0 → Answers (Prints s t) a h.outcome.count b
  success_answers z = go (left s t a h b room hands)
    where
      go : Left s t a h.outcome b → Answers (Prints s t) a h.outcome.count b
      go (refused {r} q i j k y) = absurd (omega (arith, from_1 r, i, z))
      go (joined q w i j) = record { written = _; prints = prints_success s t q w; fronts = j }
