-- Map and reduce say what they said when spare lines were the lowest ones: reduce of every text; map of every text without a keep line in which no
-- gate has more than four controls, and of every such text that rules 1 to 9 turned away; and every other one passes them still, with as many gates
-- before the reduction.
-- Assumes nothing.
use Prim.Native.Nat.{ℕ}
use mathlib.Core.Path.{◌≡◌, refl}
use mathlib.Core.List.{List, [], ◌∷◌}
use native.Mathlib.Omega.{arith}
use lib.ListN.{length}
use Rattle.text.specs.declared.Kind.{Kind}
use Rattle.text.specs.declared.Kind.TheVariants.{Cascade}
use Rattle.text.specs.declared.Refusal.{Refusal}
use Rattle.text.specs.Judging.{Judged, turned_away, first}
use Rattle.text.proofs.JudgedBy.{NoKeep, Unkept}
use Rattle.text.proofs.Lowest.{judge, Alike, refused, as_long, alike_next, judged_alike, FewControls, judged_before, circuits_before}
use Rattle.habits.specs.Habits.{size_rules}
use Rattle.jobs.specs.Jobs as now
use Rattle.jobs.specs.Jobs.{Job, takes, Entry, Exit}
use Rattle.demands.proofs.JudgedBy.{judged_text, judged, Says, Unchanged, AsNow, says_as_now}

-- ---- at most four controls

-- a cascade without a keep line, no gate of which has more than four controls
abbrev pub FewUnkept : List ℕ → Type 0
FewUnkept s = NoKeep s × FewControls Cascade s

pub lowest_as_now : AsNow judge FewUnkept
lowest_as_now = record { cascades = λ s w. judged_before Cascade s w.0 w.1; circuits = circuits_before }

-- number, line, gates, bytes, every record and every byte
pub says_before : (j : Job) (e : Entry) (x : Exit) → Unchanged FewUnkept j e.text → now.Says j e x ≡ Says judge j e x
says_before = says_as_now judge FewUnkept lowest_as_now

-- ---- every text without a keep line

pub text_alike : (k : Kind) (s : List ℕ) (records : ℕ) → Unkept k s → Alike (now.judged_text k s records) (judged_text judge k s records)
unfolding now.judged_text judged_text
text_alike k s records u = alike_next (first (size_rules (length s) (records ∷ []))) 0 (judged_alike k s u)

alike_refused : {x y : Judged} → Alike x y → (r : Refusal) (l : ℕ) → y ≡ turned_away r l → x ≡ y
alike_refused (refused r l) q m e = refl
alike_refused (as_long h n) q m e = absurd (let z : ◌≡◌ {A = ℕ} 0 1 = cc in omega arith)

-- a text that rules 1 to 9 turned away is turned away as it was
pub refused_before : (j : Job) (e : Entry) (x : Exit) (r : Refusal) (l : ℕ) → Unkept (takes j) e.text → judged judge (takes j) e ≡ turned_away r l → now.Says j e x ≡ Says judge j e x
unfolding now.Says Says now.judged judged
refused_before j e x r l u q = rw (alike_refused (text_alike (takes j) e.text (length e.list) u) r l q)
