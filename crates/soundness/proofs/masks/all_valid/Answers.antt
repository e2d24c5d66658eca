use Rattle.std.proofs.Common.{rules, refl, ◌∙◌, arith}
use Rattle.std.proofs.lemmas.Iterator.{YieldsList-from_range}
use Rattle.std.proofs.lemmas.Iterator.Search.{all_from_yields_List}
use Rattle.columns.specs.Contents.{bit_at}
use Rattle.soundness.proofs.Falls.{all_set}
use Rattle.soundness.proofs.masks.all_valid.Goals as goal

pub returns : goal.returns
returns c =
    let bit = bit_at c.args.mask.now in
    all_from_yields_List bit _ _ c.all.result c.all.ensures.ran (YieldsList-from_range 0 c.args.rows c.args.rows refl (omega arith)) (λ x b q k. search rules)
    ∙ all_set bit 0 c.args.rows
