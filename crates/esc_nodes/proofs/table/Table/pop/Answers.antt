use Rattle.std.proofs.Common.{◌≡◌, ◌<◌, ◌%◌, [], ◌∷◌, ◌++◌, length, ap, ◌∙◌, arith}
use Rattle.std.proofs.lemmas.List.{length-set, length_push}
use Rattle.esc_nodes.proofs.Linking.{AreLinked-pop}
use Rattle.esc_nodes.proofs.table.Table.pop.Goals as goal

pub invariant_of-self : goal.invariant_of-self
invariant_of-self c =
    let one_more : c.self.inside.digests.items ≡ c.pop.new.self.items
    ++ (c.in-Some.digest ∷ []) = c.in-Some.ensures.items in
    let link : c.self.inside.ends_before.items ≡ c.pop-2.new.self.items
    ++ (c.in-Some-pop.end ∷ []) = c.in-Some-pop.ensures.items in
    let as_many : length c.pop-2.new.self.items ≡ length c.pop.new.self.items =
    omega (
      arith,
      c.self.invariant.as_many,
      ap length one_more,
      ap length link,
      length_push
          c.pop.new.self.items c.in-Some.digest,
      length_push c.pop-2.new.self.items c.in-Some-pop.end,
    )
    in
    let buckets : c.len.result ≡ length c.self.inside.ends.items = omega
    (arith, c.self.inside.ends.ok.0) in
    let there : c.bucket-bucket.result < length c.self.inside.ends.items = omega (arith, buckets) in
    record {
      as_many = as_many;
      some = λ h. omega (
        arith,
        there,
        length-set c.self.inside.ends.items c.bucket-bucket.result
            c.in-Some-pop.end,
      );
      linked =
          AreLinked-pop c.self.inside.digests.items c.self.inside.ends.items
          c.self.inside.ends_before.items
          c.pop.new.self.items c.pop-2.new.self.items c.in-Some.digest c.in-Some-pop.end
          c.bucket-bucket.result
          one_more link as_many there (c.bucket-bucket.ensures.is
          ∙ ap (λ n. c.in-Some.digest % n) buckets) c.self.invariant.linked;
    }
