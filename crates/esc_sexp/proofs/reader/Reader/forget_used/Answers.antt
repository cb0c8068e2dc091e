use Rattle.std.proofs.Common.{◌≡◌, drop, length, ap, ◌∙◌, arith, length-drop}
use Rattle.esc_sexp.specs.ParseInside.{standing}
use Rattle.esc_sexp.proofs.Coming.{rest_of, read_moved}
use Rattle.esc_sexp.proofs.reader.Reader.forget_used.Goals as goal

pub invariant_of-self : goal.invariant_of-self
invariant_of-self c =
    let i = c.self.inside in
    let rest : c.in_ok-rest.rest.items ≡ drop i.start i.bytes.items =
    c.in_ok-rest.ensures.items ∙ rest_of i.start _ _ c.deref.ensures.value in
    let size = ap length rest ∙ length-drop i.start i.bytes.items in
    record {
      order = omega arith;
      within = omega (arith, size, c.self.invariant.order, c.self.invariant.within);
      small = omega (
        arith,
        size,
        c.self.invariant.order,
        c.self.invariant.within,
        c.self.invariant.small,
      );
      has_read = read_moved i.base i.start i.at i.bytes.items c.in_ok-rest.rest.items
          (standing i.parse) c.self.invariant.order rest c.self.invariant.has_read;
    }
