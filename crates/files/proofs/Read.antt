-- The bytes that a read has put into a buffer, behind those that stood there. Assumes nothing.
use Rattle.std.proofs.Common.{◌≡◌, ℕ, ◌+◌, ◌-◌, ◌≤◌, List, ◌++◌, length, take, ap, ◌∙◌, sym, arith}
use Rattle.std.specs.List.{slice_range}
use Rattle.std.proofs.lemmas.List.{drop_at, length-take-le, take-append-le, take-append-drop, take-take}
use Rattle.std.proofs.lemmas.Slice.{between_is}
use borrow.Rule.Slice.PartMut.{put_mid, post_of}

-- they are the first of those in the part lent
pub read_part : (n k got : ℕ) (xs ys : List ℕ) → n ≤ length xs → got ≤ length ys → slice_range (put_mid n k xs ys) n (n + got) ≡ take got ys
read_part n k got xs ys h few =
    let e : n + got - n ≡ got = omega arith in
    rw e (ap (take got) (drop_at (take n xs) (ys ++ post_of n k xs) n (length-take-le n xs h)) ∙ take-append-le got ys (post_of n k xs) few)

-- the first m are the first n and those behind
pub front_more : (n m : ℕ) (xs : List ℕ) → n ≤ m → take m xs ≡ take n xs ++ slice_range xs n m
front_more n m xs h = sym (take-append-drop n (take m xs)) ∙ rw (take-take n m xs h, between_is xs n m)
