-- What refusals and success leave in a gate list. Assumes nothing.
use mathlib.Core.Path.{◌≡◌, refl, ap, ◌∙◌}
use mathlib.Core.Bool.{Bool, true, false, cond}
use mathlib.Core.List.{List, ◌++◌, append-nil}
use Prim.Native.Nat.{ℕ, ◌-◌, ◌≤◌}
use native.Mathlib.Omega.{arith}
use lib.ListN.{length, take, drop, replicate, drop_of_length-le, length-take}
use lib.Dec.{leb}
use Rattle.gates.specs.declared.Gate.{Gate}
use Rattle.gates.specs.declared.Gate.TheVariants.{Not}
use Rattle.gates.specs.Code.{gates}
use Rattle.gates.proofs.CodeLists.{length_gates}
use Rattle.records.specs.Records.{filled_by}
use Rattle.text.specs.declared.Refusal.{Refusal}
use Rattle.text.specs.declared.Refusal.TheVariants.{Overlong, ShortList, Malformed, NoSuchLine, Crossed, Unsorted, TooWide, NoSpare, TooMany, ShortAnswer, DifferentLines, NotAllowed, OtherEnd}
use Rattle.text.specs.Refusals.{number_of}
use Rattle.habits.specs.Habits.{left, filled}
use Rattle.outcomes.specs.Outcomes.{limit_of, Settles, refusal_filling, success_filling}

-- where every record is written, nothing is left of the list
all_written : (x l : List Gate) (room : ℕ) → length l ≡ room → x ++ drop room l ≡ x
all_written x l room e = ap (λ (t : List Gate). x ++ t) (drop_of_length-le l {i = room} (omega (arith, e))) ∙ append-nil x

-- what a refusal leaves in a list
pub refusal_list : (r : Refusal) (room : ℕ) (codes : List ℕ) (l : List Gate) → length l ≡ room → filled_by (refusal_filling r room codes) l ≡ left r l
unfolding refusal_filling left
refusal_list r room codes l e = go (leb (number_of r) 2)
  where
    go : (b : Bool) → (gates (take 0 codes) ++ replicate (cond b 0 room - 0) (Not 0)) ++ drop (cond b 0 room) l ≡ cond b l (replicate (length l) (Not 0))
    go true = refl
    go false =
        let x : room - 0 ≡ length l = omega (arith, e) in
        all_written (replicate (room - 0) (Not 0)) l room e ∙ ap (λ (n : ℕ). replicate n (Not 0)) x

-- what success leaves in it
pub success_list : (m room : ℕ) (codes : List ℕ) (l : List Gate) → m ≤ length codes → length l ≡ room → filled_by (success_filling m room codes) l ≡ filled (gates (take m codes)) l
unfolding success_filling filled
success_list m room codes l h e =
    let x : room - m ≡ length l - length (gates (take m codes)) = omega (arith, e, length_gates (take m codes), length-take m codes, h) in
    all_written (gates (take m codes) ++ replicate (room - m) (Not 0)) l room e ∙ ap (λ (n : ℕ). gates (take m codes) ++ replicate n (Not 0)) x

-- 1 and 2 are refusals
limit_refusal : (r : Refusal) (room : ℕ) → cond (leb (number_of r) 2) 0 room ≡ limit_of (number_of r) room
unfolding limit_of
limit_refusal Overlong room = refl
limit_refusal ShortList room = refl
limit_refusal Malformed room = refl
limit_refusal NoSuchLine room = refl
limit_refusal Crossed room = refl
limit_refusal Unsorted room = refl
limit_refusal TooWide room = refl
limit_refusal NoSpare room = refl
limit_refusal TooMany room = refl
limit_refusal ShortAnswer room = refl
limit_refusal DifferentLines room = refl
limit_refusal NotAllowed room = refl
limit_refusal OtherEnd room = refl

pub refusal_settles : (r : Refusal) (room : ℕ) (codes : List ℕ) → Settles (number_of r) room (refusal_filling r room codes)
unfolding refusal_filling
refusal_settles r room codes = record { fits = record { there = omega arith; valid = tt; few = omega arith; within = go (leb (number_of r) 2) }; limit = limit_refusal r room }
  where
    go : (b : Bool) → cond b 0 room ≤ room
    go true = omega arith
    go false = omega arith
