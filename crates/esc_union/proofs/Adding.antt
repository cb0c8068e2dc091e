-- One list of lists, where one of them goes to the end of another.
use Rattle.std.proofs.Common.{◌≡◌, ◌≢◌, ℕ, ◌<◌, List, [], ◌++◌, length, map, get_or, set, ap, sym, ◌∙◌, get_or-set_other}
use Rattle.std.proofs.lemmas.List.{map-set, set_comm, set-set, set-get_or, get_or-map}

module _ {V : Type 0} (f : V → List ℕ) (ms : List V) (a b : ℕ) (e w m d g : V) (a_in : a
    < length ms) (b_in : b < length ms) (apart : a ≢ b)
    (was : f m ≡ f (get_or ms a d)) where
  list_at : (i : ℕ) (x : V) → i < length ms → get_or (map f ms) i [] ≡ f (get_or ms i x)
  list_at i x l = get_or-map f ms i x [] l

  other_at : get_or (set ms a e) b g ≡ get_or ms b g
  other_at = get_or-set_other ms a b e g (λ k. apart (sym k))

  put_back : map f (set (set (set ms a e) b w) a m) ≡ set (map f ms) b (f w)
  put_back =
      map-set f (set (set ms a e) b w) a m
      ∙ (ap (λ l. set l a (f m)) (map-set f (set ms a e) b w
      ∙ ap (λ l. set l b (f w)) (map-set f ms a e))
      ∙ (set_comm (set (map f ms) a (f e)) b a (f w) (f m) (λ k. apart (sym k))
      ∙ ap (λ l. set l b (f w)) (set-set (map f ms) a (f e) (f m)
      ∙ (ap (λ x. set (map f ms) a x) (was ∙ sym (list_at a d a_in))
      ∙ set-get_or (map f ms) a []))))

  pub added : f w ≡ f (get_or (set ms a e) b g) ++ f m →
      map f (set (set (set ms a e) b w) a m) ≡ set (map f ms) b (get_or (map f ms) b []
      ++ get_or (map f ms) a [])
  added is =
      put_back ∙ ap (λ x. set (map f ms) b x)
      (is ∙ (ap (λ x. f x ++ f m) other_at ∙ (ap (λ x. x ++ f m) (sym (list_at b g b_in))
      ∙ ap (λ x. get_or (map f ms) b [] ++ x) (was ∙ sym (list_at a d a_in)))))

  pub as_it_was : f w ≡ f (get_or (set ms a e) b g) → map f (set (set (set ms a e) b w) a m)
      ≡ map f ms
  as_it_was is =
      put_back ∙ (ap (λ x. set (map f ms) b x) (is ∙ (ap f other_at ∙ sym (list_at b g b_in)))
      ∙ set-get_or (map f ms) b [])
