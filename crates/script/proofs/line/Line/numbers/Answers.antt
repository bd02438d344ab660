-- The definition, number by number.
use Rattle.floats.specs.Prelude.{◌≡◌, ◌<◌, ◌∙◌, sym, length, Float, binary64}
use Rattle.floats.specs.Notation.{zero}
use Rattle.std.proofs.Common.{None, Option, arith, rules, unwrap_or}
use Rattle.std.proofs.lemmas.List.{same_lists, get_or-map, length-map}
use Rattle.script.proofs.line.Line.numbers.Goals as goal

pub returns : goal.returns
returns c =
    let long : length c.map.result ≡ 28 = c.map.ensures.items.long in
    let size : length c.args.self.values ≡ 28 = search rules in
    same_lists _ _ (simp length-map (long ∙ sym size))
    (λ k d h.
    let a = c.map.ensures.items.at k None d (omega arith) in
    let inside : k < length c.args.self.values = omega arith in
    rw (get_or-map (λ (x : Option Float). unwrap_or x (zero binary64)) c.args.self.values k None d inside) (search rules))
