-- Without a body there is no block.
use Rattle.std.proofs.Common.{Option, None, refl, subst}
use Rattle.bstr.specs.BStr.{bstr_bytes}
use Rattle.bstr.specs.declared.bstr.BStr.{BStr}
use Rattle.gixobj_hash.specs.Optional.{bytes_if_some}
use Rattle.gixobj_text.specs.Titles.{SplitsTitle}
use Rattle.gixobj_text.proofs.commit.message.trailer_block.Goals as goal

pub returns-in-None : goal.returns-in-None
returns-in-None c = record {
  title = bstr_bytes c.from_bytes.result.title;
  body = None;
  split = subst (λ (body : Option BStr). SplitsTitle c.args.message.now (bstr_bytes c.from_bytes.result.title) (bytes_if_some body))
      c.in-None.ensures.none c.from_bytes.ensures;
  has = refl;
}
