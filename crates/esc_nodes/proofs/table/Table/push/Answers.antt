use Rattle.std.proofs.Common.{◌≡◌, ◌+◌, ◌<◌, ◌%◌, [], ◌∷◌, ◌++◌, length, get_or, set, subst, sym, ap, ◌∙◌, arith}
use Rattle.std.proofs.lemmas.Grind.{common_steps}
use Rattle.std.proofs.lemmas.List.{length-set, length_push}
use Rattle.esc_nodes.specs.TableInside.{AreLinked, Filed}
use Rattle.esc_nodes.proofs.Linking.{AreLinked-push}
use Rattle.esc_nodes.proofs.table.Table.push.Goals as goal

pub invariant_of-self-2 : goal.invariant_of-self-2
invariant_of-self-2 c =
    let buckets : c.len-2.result ≡ length c.self-2.inside.ends.items = omega
    (arith, c.self-2.inside.ends.ok.0) in
    let there : c.bucket-bucket.result < length c.self-2.inside.ends.items =
    omega (arith, buckets) in
    let more : c.push-2.new.self.items ≡ c.self-2.inside.digests.items
    ++ (c.args.digest ∷ []) = grind (arith, common_steps) in
    let link : c.push.new.self.items ≡ c.self-2.inside.ends_before.items
    ++ (get_or c.self-2.inside.ends.items c.bucket-bucket.result 0 ∷ []) = grind
    (arith, common_steps) in
    let count : length c.push-2.new.self.items ≡ length c.self-2.inside.digests.items
    + 1 = ap length more ∙ length_push c.self-2.inside.digests.items c.args.digest in
    let end : c.in_ok-end.end ≡ length c.self-2.inside.digests.items + 1 =
    omega (
      arith,
      c.in_ok-end.ensures.0,
      c.len.ensures,
      c.self.inside.digests.ok.0,
      ap length c.add_buckets.ensures.digests,
      ap (λ (t : Filed). length t.digests) c.self.view_is,
      ap (λ (t : Filed). length t.digests) c.self-2.view_is,
    ) in
    record {
      as_many = omega (
        arith,
        count,
        c.self-2.invariant.as_many,
        ap length link,
        length_push
            c.self-2.inside.ends_before.items (get_or c.self-2.inside.ends.items
            c.bucket-bucket.result 0),
      );
      some = λ h. omega (
        arith,
        there,
        length-set c.self-2.inside.ends.items c.bucket-bucket.result
            c.in_ok-end.end,
      );
      linked =
          subst (AreLinked c.push-2.new.self.items
          (set c.self-2.inside.ends.items c.bucket-bucket.result c.in_ok-end.end)
          c.push.new.self.items) (sym count)
          (AreLinked-push c.self-2.inside.digests.items c.self-2.inside.ends.items
          c.self-2.inside.ends_before.items
          c.push-2.new.self.items (set c.self-2.inside.ends.items c.bucket-bucket.result
          c.in_ok-end.end) c.push.new.self.items
          c.args.digest c.bucket-bucket.result c.self-2.invariant.as_many there
          (c.bucket-bucket.ensures.is ∙ ap (λ n. c.args.digest % n) buckets) more link
          (ap (set c.self-2.inside.ends.items c.bucket-bucket.result) end)
          c.self-2.invariant.linked);
    }
