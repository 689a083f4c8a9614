-- What is found in a document by its content is found by its map, and its keys are sorted if those of the document
-- are.
use Rattle.std.proofs.Common.{◌≡◌, List, Option, Some, None, Result, Ok, Err, IfOk, IfSome, MatchOption, refl, ap, sym, subst}
use Rattle.jsonptr.specs.Text.{Text}
use Rattle.jsonptr.specs.Node.{NodeMap}
use Rattle.jsonptr.specs.Following.{Finds}
use Rattle.jsonptr.specs.Content.{Content, map_of, FindsContent, SortedContent}
use Rattle.jsonptr.specs.Assign.{AssignsValue}
use Rattle.jsonptr.specs.Delete.{NamesNothing}
use Rattle.jsonptr.specs.Removing.{Deletes}
use Rattle.jsonptr_tree.proofs.ContentLemmas.{FindsContent-Finds}
use Rattle.jsonptr_tree.proofs.ContentOrderLemmas.{part_has_sorted_keys}

module _ {V D : Type 0} (view : V → D) (content : D → Content) where
  -- the value that was replaced
  pub found_map : {T E : Type 0} (d : D) (tokens : List Text) (v : V) (r : Result T E)
      → IfOk r (λ _. FindsContent (content d) tokens (content (view v)))
      → IfOk r (λ _. Finds (map_of (content d)) tokens (map_of (content (view v))))
  found_map d tokens v (Ok t) found = FindsContent-Finds (content d) tokens (content (view v)) found
  found_map d tokens v (Err e) found = tt

  -- its copy
  pub found_copy : (d : D) (tokens : List Text) (v w : V)
      → FindsContent (content d) tokens (content (view v))
      → view w ≡ view v
      → Finds (map_of (content d)) tokens (map_of (content (view w)))
  found_copy d tokens v w found same =
      subst (λ (e : D). Finds (map_of (content d)) tokens (map_of (content e))) (sym same) (FindsContent-Finds (content d) tokens (content (view v)) found)

  -- a deleted value
  pub found_deleted : {E : Type 0} (d e : D) (tokens : List Text) (blank : NodeMap) (r : Result (Option V) E)
      → IfOk r (λ o. Deletes (map_of (content d)) tokens blank (map_of (content e)))
      → IfOk r (λ o. MatchOption o (NamesNothing (map_of (content d)) tokens × (e ≡ d)) (λ v. FindsContent (content d) tokens (content (view v))))
      → IfOk r (λ o. MatchOption o (NamesNothing (map_of (content d)) tokens × (map_of (content e) ≡ map_of (content d))) (λ v. Finds (map_of (content d)) tokens (map_of (content (view v))) × Deletes (map_of (content d)) tokens blank (map_of (content e))))
  found_deleted d e tokens blank (Ok (Some v)) made found = (FindsContent-Finds (content d) tokens (content (view v)) found, made)
  found_deleted d e tokens blank (Ok None) made found = (found.0, ap (λ (f : D). map_of (content f)) found.1)
  found_deleted d e tokens blank (Err error) made found = tt

  -- if the keys of a document are sorted, so are those of what is found in it
  part_ordered : (d e : D) (tokens : List Text)
      → FindsContent (content d) tokens (content e)
      → SortedContent (content d) → SortedContent (content e)
  part_ordered d e tokens found ordered = part_has_sorted_keys found.path (content d) (content e) ordered found.there

  -- those of the replaced value
  pub found_ordered : {T E : Type 0} (d : D) (tokens : List Text) (v : V) (r : Result T E)
      → IfOk r (λ _. FindsContent (content d) tokens (content (view v)))
      → IfOk r (λ _. SortedContent (content d) → SortedContent (content (view v)))
  found_ordered d tokens v (Ok t) found = part_ordered d (view v) tokens found
  found_ordered d tokens v (Err e) found = tt

  -- those of a copy
  pub copy_ordered : (d : D) (tokens : List Text) (v w : V)
      → FindsContent (content d) tokens (content (view v))
      → view w ≡ view v
      → SortedContent (content d) → SortedContent (content (view w))
  copy_ordered d tokens v w found same ordered =
      subst (λ (e : D). SortedContent (content e)) (sym same) (part_ordered d (view v) tokens found ordered)

  -- those of a deleted value
  pub deleted_ordered : {E : Type 0} (d e : D) (tokens : List Text) (r : Result (Option V) E)
      → IfOk r (λ o. MatchOption o (NamesNothing (map_of (content d)) tokens × (e ≡ d)) (λ v. FindsContent (content d) tokens (content (view v))))
      → IfOk r (λ o. IfSome o (λ v. SortedContent (content d) → SortedContent (content (view v))))
  deleted_ordered d e tokens (Ok (Some v)) found = part_ordered d (view v) tokens found
  deleted_ordered d e tokens (Ok None) found = tt
  deleted_ordered d e tokens (Err error) found = tt

  -- and those of the value that an assignment returns
  pub given_ordered : {E : Type 0} (d : D) (tokens : List Text) (v m : NodeMap) (r : Result (Option V) E)
      → IfOk r (AssignsValue (map_of (content d)) tokens v m (λ w. map_of (content (view w))) (λ ts e. FindsContent (content d) ts (content (view e))))
      → IfOk r (λ o. IfSome o (λ e. SortedContent (content d) → SortedContent (content (view e))))
  given_ordered d tokens v m (Ok (Some e)) made = λ ordered.
      let found = made.returned e refl in
      part_has_sorted_keys found.4.path (content d) (content (view e)) ordered found.4.there
  given_ordered d tokens v m (Ok None) made = tt
  given_ordered d tokens v m (Err error) made = tt
