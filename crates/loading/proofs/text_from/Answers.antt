-- `loading::text_from` meets its contract. Assumes nothing.
use Rattle.std.proofs.Common.{◌≡◌, refl, arith}
use lib.ListN.{length}
use Rattle.loading.proofs.Loading.{loaded_all}
use Rattle.loading.proofs.text_from.Goals as goal

pub moved-r-requires : goal.moved-r-requires
moved-r-requires c = let b = c.in_ok-first.ensures in (b.forward, (b.stands c.args.kind c.args.list.now).inside)

pub loop-r-init : goal.loop-r-init
loop-r-init c = record {
  text = c.moved-r.ensures.0;
  same = refl;
  stands = rw c.moved-r.ensures.1 (c.in_ok-first.ensures.stands c.args.kind c.args.list.now);
}

pub returns : goal.returns
returns c =
    let v = c.loop-r.invariant in
    let e : length c.loop-r.r.text.now ≡ length c.args.r.text.now = rw v.text refl in
    loaded_all v.stands (omega (arith, c.loop-r-test.false, e))
