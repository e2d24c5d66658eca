use Rattle.std.proofs.Common.{◌≡◌, ℕ, ◌+◌, ◌*◌, ◌≤◌, List, length, lit<, sym, ap, ◌∙◌, ap₂, arith}
use Rattle.wire.specs.Calls.{interleave, call_in, call_size, u16_at, u32_at, pairs_in}
use Rattle.wire.proofs.Entries.{columns_back, pairs_back, part_entries}
use Rattle.wire.proofs.kind.Kind.call_in.Goals as goal

pub returns-in_ok-pairs_in-in-Interleave : goal.returns-in_ok-pairs_in-in-Interleave
returns-in_ok-pairs_in-in-Interleave c =
    let input : List ℕ = c.args.input.now in
    let s : ℕ = u16_at input 1 in
    let m : ℕ = u32_at input 3 in
    let sources : 7 + 4 * c.from.result ≡ 7 + 4 * s = ap (λ n. 7 + 4 * n) (c.from.ensures ∙ c.u16_at.ensures) in
    let size : call_size c.args.self input ≡ 7 + 4 * s + 6 * m = ap (λ k. call_size k input) c.in-Interleave.is in
    let end : c.call_size-in-Interleave.result ≡ 7 + 4 * c.from.result + 6 * m = omega (arith, sources, c.call_size-in-Interleave.ensures ∙ size) in
    let there : 7 + 4 * s + 6 * m ≤ length input = omega (arith, c.requires.body, size) in
    let columns = part_entries columns_back input 7 (7 + 4 * c.from.result) s (lit< tt) sources (omega (arith, there, sources)) in
    let pairs = part_entries pairs_back input (7 + 4 * c.from.result) c.call_size-in-Interleave.result m (lit< tt) end (omega (arith, there, sources, end)) in
    ap₂ interleave (c.in_ok-columns_in-in-Interleave.ensures ∙ columns) (c.in_ok-pairs_in-in-Interleave.ensures ∙ pairs ∙ ap (λ from. pairs_in input from m) sources)
    ∙ ap (λ k. call_in k input) (sym c.in-Interleave.is)
