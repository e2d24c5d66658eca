use Rattle.std.proofs.Common.{rules, Bool, ◌-◌, ◌*◌, ◌^◌, ◌&&◌, eqb, leb, ltb, Some, sym, ap, ◌∙◌, arith}
use Rattle.std.specs.Option.{option_eq}
use Rattle.columns.specs.Format.{highest}
use Rattle.formats.specs.Spelled.{bytes_of}
use Rattle.soundness.specs.Walks.{all_values}
use Rattle.soundness.proofs.Falls.{walk_climbs, below_half}
use Rattle.soundness.proofs.ends.sound_ends.Goals as goal

pub returns-then-eq : goal.returns-then-eq
returns-then-eq c =
    let w = bytes_of c.args.width in
    let top = c.args.top in
    let k = c.last_in_order.ensures ltb (λ a b r p. search rules) in
    let e = sym c.if-eq.true ∙ c.eq.ensures ∙ ap (λ o. option_eq eqb o (Some top)) k ∙ walk_climbs 0 top (all_values w c.args.body.now) in
    ap (ltb top) c.half.ensures.is
    ∙ below_half top (2 ^ (8 * w - 1)) (omega (arith, c.half.ensures.is, c.half.ensures.some))
    ∙ ap (λ (b : Bool). b && leb top (highest w)) e

pub returns-else-eq : goal.returns-else-eq
returns-else-eq c =
    let w = bytes_of c.args.width in
    let top = c.args.top in
    let k = c.last_in_order.ensures ltb (λ a b r p. search rules) in
    let e = sym c.if-eq.false ∙ c.eq.ensures ∙ ap (λ o. option_eq eqb o (Some top)) k ∙ walk_climbs 0 top (all_values w c.args.body.now) in
    c.if-eq.false ∙ ap (λ (b : Bool). b && leb top (highest w)) e
