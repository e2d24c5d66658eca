use Rattle.std.proofs.Common.{rules, ℕ, Bool, ◌-◌, ◌*◌, ◌^◌, ◌&&◌, leb, ltb, ap, ◌∙◌}
use Rattle.formats.specs.Spelled.{bytes_of}
use Rattle.soundness.specs.Walks.{all_values}
use Rattle.soundness.proofs.Falls.{and_some, some_by, walk_rises}
use Rattle.soundness.proofs.offsets.sound_offsets.Goals as goal

pub returns : goal.returns
returns c =
    let w = bytes_of c.args.width in
    let t : ℕ → Bool = λ x. leb x c.args.bound in
    let u : ℕ → Bool = λ x. ltb x (2 ^ (8 * w - 1)) in
    some_by c.last_in_order-last.result c.is_some_and.result (λ x. t x && u x) _ c.is_some_and.ensures (λ x p. search rules)
    ∙ ap (λ o. and_some o (λ x. t x && u x)) (c.last_in_order-last.ensures leb (λ a b r p. search rules))
    ∙ walk_rises t u 0 (all_values w c.args.body.now)
