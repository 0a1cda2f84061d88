-- Texts that a sink takes one after the other.
use Rattle.std.proofs.Common.{◌≡◌, ◌∙◌, ◌++◌, [], ℕ, List, Option, Some, ap, sym, subst, append_assoc}
use Rattle.std.proofs.lemmas.List.{append-nil}
use Rattle.std.specs.Prelude.{OnErr, OnOk, Result, Ok, Err}
use Rattle.link_world.proofs.Texts.{text_append}
use Rattle.link_world.specs.Written.{text_of}
use Rattle.spdm_basis.specs.Stream.{Takes, TakesPrefix}
use Rattle.spdm_grammar.specs.Lines.{Line}

pub takes_none : (now : Option (List ℕ)) → Takes now [] now
takes_none now held is = is ∙ ap Some (sym (append-nil held))

pub takes_more : (a b c : Option (List ℕ)) (x y : List ℕ) → Takes a x b → Takes b y c → Takes a (x ++ y) c
takes_more a b c x y first second held is = second (held ++ x) (first held is) ∙ ap Some (append_assoc held x y)

pub prefix_more : (a b c : Option (List ℕ)) (x y : List ℕ) → Takes a x b → TakesPrefix b y c → TakesPrefix a (x ++ y) c
prefix_more a b c x y first second =
    (x ++ second.0, second.1, ap (λ (t : List ℕ). x ++ t) second.2 ∙ sym (append_assoc x second.0 second.1), takes_more a b c x second.0 first second.3)

pub prefix_longer : (a b : Option (List ℕ)) (x y : List ℕ) → TakesPrefix a x b → TakesPrefix a (x ++ y) b
prefix_longer a b x y p = (p.0, p.1 ++ y, ap (λ (t : List ℕ). t ++ y) p.2 ∙ append_assoc p.0 p.1 y, p.3)

pub whole_prefix : (a b : Option (List ℕ)) (x : List ℕ) → Takes a x b → TakesPrefix a x b
whole_prefix a b x t = (x, [], sym (append-nil x), t)

-- ---- Lines one behind the other.

-- These are the first of those.
pub prefix_lines : (a b : Option (List ℕ)) (xs ys zs : List Line) → zs ≡ xs ++ ys → TakesPrefix a (text_of xs) b → TakesPrefix a (text_of zs) b
prefix_lines a b xs ys zs is p =
    subst (λ (t : List ℕ). TakesPrefix a t b) (sym (ap text_of is ∙ text_append xs ys)) (prefix_longer a b (text_of xs) (text_of ys) p)

module _ (a m b : Option (List ℕ)) (xs ys zs : List Line) (is : xs ++ ys ≡ zs) (first : Takes a (text_of xs) m) where
  joined : text_of xs ++ text_of ys ≡ text_of zs
  joined = sym (text_append xs ys) ∙ ap text_of is

  pub both_lines : Takes m (text_of ys) b → Takes a (text_of zs) b
  both_lines second = subst (λ (t : List ℕ). Takes a t b) joined (takes_more a m b (text_of xs) (text_of ys) first second)

  pub both_prefix : TakesPrefix m (text_of ys) b → TakesPrefix a (text_of zs) b
  both_prefix second = subst (λ (t : List ℕ). TakesPrefix a t b) joined (prefix_more a m b (text_of xs) (text_of ys) first second)

  -- for a last call whose result is returned
  pub ok_lines : {T E : Type 0} (r : Result T E) → OnOk r (Takes m (text_of ys) b) → OnOk r (Takes a (text_of zs) b)
  ok_lines (Ok x) second = both_lines second
  ok_lines (Err e) second = tt

  pub err_lines : {T E : Type 0} (r : Result T E) → OnErr r (TakesPrefix m (text_of ys) b) → OnErr r (TakesPrefix a (text_of zs) b)
  err_lines (Ok x) second = tt
  err_lines (Err e) second = both_prefix second

pub on_err : {T E : Type 0} (r : Result T E) (P : Type 0) → P → OnErr r P
on_err (Ok x) P p = tt
on_err (Err e) P p = p
