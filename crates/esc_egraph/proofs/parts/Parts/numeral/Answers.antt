use Rattle.std.proofs.Common.{◌≡◌, ℕ, ◌<◌, length, get_or, arith, sym, subst, ◌∙◌}
use Rattle.esc_union.specs.Merges.{class_number}
use Rattle.esc_egraph.specs.PartsInside.{IsFirst}
use Rattle.esc_egraph.proofs.Numerals.{numeral_read}
use Rattle.esc_egraph.proofs.parts.Parts.numeral.Goals as goal

pub returns-then-place-members-clause-some : goal.returns-then-place-members-clause-some
returns-then-place-members-clause-some c =
    let root : ℕ = class_number c.args.self.now.classes.merges c.args.node in
    let at : c.index.result ≡ root = c.index.ensures ∙ c.root-root.ensures.root in
    let low : root < length c.args.self.now.nodes = omega
    (arith, c.root-root.ensures.root, c.root-root.ensures.there, c.requires.sound.as_many) in
    let h = (c.members-members.ensures.class.exact c.index-members-place.result).0
    (c.index-place.result.now, c.if-place-members.true, sym c.index-members-place.is) in (
      omega (arith, h.0, c.requires.sound.as_many),
      sym h.1,
      numeral_read c.args.self.now.nodes c.members-members.result.now c.args.self.now.numerals.items
          c.index.result root c.index-place.result.now
          (subst (λ xs. IsFirst c.args.self.now.nodes xs
          (get_or c.args.self.now.numerals.items root 0)) (sym c.members-members.ensures.list)
          (c.requires.sound.numbered.first root low))
          at (omega (arith, low, c.requires.sound.numbered.as_many)) c.index-place.ensures
          c.if-place-members.true c.index-members-place.result c.index-members-place.is,
    )
