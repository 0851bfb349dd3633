-- `stim_make::keep` meets its contract: the first of the bytes that came stand behind those of the line. Assumes nothing.
use Rattle.stim_make.proofs.KeepLaws.{kept_size, kept_bytes}
use borrow.Author.Rules.{rules}
use mathlib.Core.Path.{refl}
use Rattle.stim_make.proofs.keep.Goals as goal

pub returns : goal.returns
returns c =
    let l = c.args.line in
    let n = c.min-count.result in (
      refl,
      record {
        size = kept_size l c.args.more.now n (search rules) l.kept c.min-count.ensures;
        bytes = kept_bytes l c.args.more.now n (search rules) l.kept c.min-count.ensures _ c.copy_from_slice.ensures.after;
      },
    )
