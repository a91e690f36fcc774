-- Document 01's starred examples, as the bytes that the programs write: "gives, whole, from the map program". Assumes nothing.
use mathlib.Core.Path.{◌≡◌, refl, sym, ◌∙◌, subst}
use mathlib.Core.List.{List, [], ◌∷◌}
use Prim.Native.Nat.{ℕ, ◌≤◌}
use Prim.Native.String.{String}
use native.Mathlib.Omega.{arith}
use lib.ListN.{length, take, replicate, length-replicate}
use Rattle.gates.specs.Every.{Every}
use Rattle.gates.specs.declared.Gate.TheVariants.{Not}
use Rattle.records.specs.declared.Outcome.{Outcome}
use Rattle.text.specs.Refusals.{number_of}
use Rattle.text.specs.Text.{circuit_text}
use Rattle.writing.specs.Decimal as form
use Rattle.jobs.specs.Jobs.{Job, mapping, reducing, takes, Output, as_text, as_count, judged_text, Entry, Exit, Says}
use Rattle.demands.specs.Examples.{typed, Answer, text, quote, away, Row, gives, expands, Shows, Gets, Correct, table, kept_table}
use Rattle.jobs.proofs.One.{says_one}
use Rattle.demands.proofs.Numbers.{from_1, text_count}
use Rattle.demands.proofs.Table.{examples, kept_examples}
use Rattle.console.specs.declared.Program.{Program}
use Rattle.console.specs.declared.Program.TheVariants.{Map, Reduce, Quote}
use Rattle.console.specs.Output.{job_of, output_of, Prints, answer_bytes}
use Rattle.console.proofs.Front.{fronts_are}
use Rattle.console.proofs.Answers.{Left, refused, succeeded, own_left, area_left, prints_refusal, prints_success}

-- an answer as bytes
abbrev pub in_bytes : Answer → List ℕ
in_bytes (text ls g b) = typed ls
in_bytes (quote g) = form.quote g
in_bytes (away r l) = form.turned_away r l

-- a program that puts this out gives such an answer
abbrev pub Puts : Answer → Output → Type 0
Puts (text ls g b) o = o ≡ as_text
Puts (quote g) o = o ≡ as_count
Puts (away r l) o = Unit {0}

-- each program over the job that gives such an answer writes it
abbrev pub Printed : Row → Type 0
Printed (gives j ls a) = (p : Program) → job_of p ≡ j → Puts a (output_of p) → Prints p (typed ls) (in_bytes a)
Printed (expands n kept cs t s m) = Unit {0}

-- an answer within a program's area, or a refusal
abbrev Fitting : Row → Type 0
Fitting (gives j ls (text out g b)) = length (typed out) ≤ answer_bytes
Fitting (gives j ls (quote g)) = Unit {0}
Fitting (gives j ls (away r l)) = r ≡ 0 → ⊥
Fitting (expands n kept cs t s m) = Unit {0}

-- ---- a run of a program's job

-- what it is given: a gate list of its own, and the program's area or none
abbrev lent_area : Program → List ℕ
lent_area Map = replicate answer_bytes 0
lent_area Reduce = replicate answer_bytes 0
lent_area Quote = []

abbrev entry : Program → List ℕ → Entry
entry p s = record { text = s; list = replicate 4096 (Not 0); area = lent_area p }

area_length : length (replicate {A = ℕ} answer_bytes 0) ≡ answer_bytes
area_length = length-replicate {A = ℕ} answer_bytes 0

-- a program that writes a text has room for it, and one that counts lends nothing
holds_text : (p : Program) (t : List ℕ) → output_of p ≡ as_text → length t ≤ answer_bytes → length t ≤ length (lent_area p)
holds_text Map t i l = omega (arith, area_length, l)
holds_text Reduce t i l = omega (arith, area_length, l)
holds_text Quote t i l = absurd (text_count (sym i))

lends_nothing : (p : Program) → output_of p ≡ as_count → lent_area p ≡ []
lends_nothing Map i = absurd (text_count i)
lends_nothing Reduce i = absurd (text_count i)
lends_nothing Quote i = refl

abbrev outcome : Exit → Outcome
outcome x = record { number = x.number; line = x.line; gates = x.gates; bytes = x.bytes }

left : (p : Program) (s : List ℕ) (x : Exit) → Says (job_of p) (entry p s) x → Left (judged_text (takes (job_of p)) s 4096) (output_of p) (lent_area p) (outcome x) x.area
left Map s x y = area_left mapping s (lent_area Map) (outcome x) x.area (omega (arith, area_length)) (x.list, y)
left Reduce s x y = area_left reducing s (lent_area Reduce) (outcome x) x.area (omega (arith, area_length)) (x.list, y)
left Quote s x y = own_left mapping s [] (outcome x) x.area (λ w. absurd (text_count (sym w))) (x.list, y)

-- ---- what the program writes then

module _ (p : Program) (s : List ℕ) (x : Exit) (says : Says (job_of p) (entry p s) x) where
  abbrev Leaves : Type 0
  Leaves = Left (judged_text (takes (job_of p)) s 4096) (output_of p) (lent_area p) (outcome x) x.area

  prints_text : (t : List ℕ) → output_of p ≡ as_text → x.number ≡ 0 → take x.bytes x.area ≡ t → Prints p s t
  unfolding Prints
  prints_text t i z e = go (left p s x says)
    where
      go : Leaves → Prints p s t
      go (refused {r} q k l b) = absurd (omega (arith, from_1 r, k, z))
      go (succeeded {h} {c} {r} q w k f) =
          let u : t ≡ circuit_text h.lines r = sym e ∙ fronts_are (rw i at f) in
          rw (u, i) (rw i at (prints_success (output_of p) q w))

  prints_gates : (m : ℕ) → output_of p ≡ as_count → x.number ≡ 0 → x.gates ≡ m → Prints p s (form.quote m)
  unfolding Prints
  prints_gates m i z e = go (left p s x says)
    where
      go : Leaves → Prints p s (form.quote m)
      go (refused {r} q k l b) = absurd (omega (arith, from_1 r, k, z))
      go (succeeded {h} {c} {r} q w k f) =
          let g = rw i at f in
          let u : m ≡ length r = sym e ∙ g.0 in
          rw (u, i) (rw i at (prints_success (output_of p) q w))

  prints_away : (n l : ℕ) → (n ≡ 0 → ⊥) → x.number ≡ n → x.line ≡ l → Prints p s (form.turned_away n l)
  unfolding Prints
  prints_away n l z e f = go (left p s x says)
    where
      go : Leaves → Prints p s (form.turned_away n l)
      go (refused {r} {l = i} q a b c) =
          let u : n ≡ number_of r = sym e ∙ a in
          let v : l ≡ i = sym f ∙ b in
          rw (u, v) (prints_refusal (output_of p) q)
      go (succeeded q w k a) = absurd (z (sym e ∙ k))

-- the job's answer, of a row that is correct
module _ (p : Program) (ls : List String) (a : Answer) (c : Correct (gives (job_of p) ls a)) (area : Gets a (lent_area p)) where
  said : (x : Exit) × Says (job_of p) (entry p (typed ls)) x × Shows a x
  unfolding Correct
  said =
      let y = says_one (job_of p) (entry p (typed ls)) in
      (y.0, y.1, c (entry p (typed ls)) y.0 refl (omega (arith, length-replicate 4096 (Not 0))) area y.1)

row_printed : (r : Row) → Fitting r → Correct r → Printed r
unfolding Shows Gets
row_printed (expands n kept cs t s m) f c = tt
row_printed (gives j ls (text out g b)) f c = λ p k i.
    let (x, y, z) = said p ls (text out g b) (subst (λ (o : Job). Correct (gives o ls (text out g b))) (sym k) c) (holds_text p (typed out) i f) in
    prints_text p (typed ls) x y (typed out) i z.0 z.3
row_printed (gives j ls (quote g)) f c = λ p k i.
    let (x, y, z) = said p ls (quote g) (subst (λ (o : Job). Correct (gives o ls (quote g))) (sym k) c) (lends_nothing p i) in
    prints_gates p (typed ls) x y g i z.0 z.1
row_printed (gives j ls (away r l)) f c = λ p k i.
    let (x, y, z) = said p ls (away r l) (subst (λ (o : Job). Correct (gives o ls (away r l))) (sym k) c) tt in
    prints_away p (typed ls) x y r l f z.0 z.1

rows_printed : (rs : List Row) → Every Fitting rs → Every Correct rs → Every Printed rs
rows_printed [] f c = tt
rows_printed (r ∷ rs) f c = (row_printed r f.0 c.0, rows_printed rs f.1 c.1)

fitting : Every Fitting table
unfolding typed
fitting = (omega arith, (tt, (tt, (tt, (tt, (λ e. omega (arith, e), (omega arith, (omega arith, (omega arith, (omega arith, (omega arith, (omega arith, (omega arith, tt)))))))))))))

-- document 01's starred examples, byte for byte
pub printed_examples : Every Printed table
printed_examples = rows_printed table fitting examples

-- those of kept lines
kept_fitting : Every Fitting kept_table
unfolding typed
kept_fitting = (λ e. omega (arith, e), (tt, (tt, (tt, (tt, (omega arith, (λ e. omega (arith, e), tt)))))))

pub printed_kept : Every Printed kept_table
printed_kept = rows_printed kept_table kept_fitting kept_examples
