-- `store` writes the record at i in turn i. Assumes nothing.
use Rattle.std.proofs.Common.{length, arith}
use Rattle.records.specs.Records.{not_0, padded}
use Rattle.records.proofs.Lists.{pasted_more, record_at, length_padded, code_behind}
use Rattle.records.proofs.store.Goals as goal

pub of-requires : goal.of-requires
of-requires g c = rw c.code_at.ensures (code_behind c.args.codes.now c.loop-i.i c.requires.1)

pub loop-i-preserved : goal.loop-i-preserved
loop-i-preserved g c =
    let of = g.R.Record.of in
    let ks = c.args.codes.now in
    let l = c.args.list.now in
    let i = c.loop-i.i in
    rw (c.loop-i.invariant, c.of.ensures, c.code_at.ensures, ← record_at of ks (length l) i)
    (pasted_more (padded of ks (length l)) l i (of not_0) (omega (arith, length_padded of ks (length l) c.requires.0)) (omega arith))
