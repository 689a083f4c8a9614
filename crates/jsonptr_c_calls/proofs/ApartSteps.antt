-- Steps of walks that open an `Apart` and that make one.
--     pair              the machine value of a struct with two fields
--     pair_fits         a pointer and an allocator's handle make a value of the type
--     apart_opens       an `Apart` is [the value on the heap; the handle]
--     apart_made        the same two make an `Apart`
use Rattle.std.proofs.Common.{◌≡◌, ℕ, List, [], ◌∷◌, ◌++◌, refl, subst}
use mathlib.Core.Bool.{true, ◌&&◌}
use lib.Dec.{T}
use seplogic.Ra.Ura.{Ura}
use mir.Syntax.{impl, tnil, dnil}
use mir.Raw.{raw as untyped}
use mir.Val.{Val, vptr, vstruct, vcons, vnil, of_list, has_ty, WT}
use base.Fml.{Fml}
use base.Logic.{never, fst∗}
use types.Logic.{Logic, sem}
use types.Kit.{Item, Goal, Seq, Step, step, ‵, ◌$◌, move, drop, fsplit, fjoin, fpick, fpack, feq_i, feq_l}
use denote.RattleType.{RattleType, Valss}
use denote.Builtin.{RawPtr}
use denote.Memory.{lone}
use denote.RawPtr.{Ptr, block_ptr, null_ptr, ptr_val, in_a_block}
use denote.Steps.{nothing}
use denote.Param.{layout}
use denote.Param.Laws.{Laws}
use denote.Struct.Struct.{within}
use denote.Struct.Owning.{shape}
use Rattle.core.specs.declared.alloc.Allocator.{Ghosts}
use Rattle.core.proofs.alloc.Calls.{Al, handle_tells}
use Rattle.core.proofs.cell.Inside.{Good}
use Rattle.std.specs.Box.Ownership.{box_owns}
use Rattle.std_alloc.proofs.ResultValues.{and_tt}
use Rattle.jsonptr_c_calls.specs.contracts.apart.Apart as apart

abbrev pub pair : Val → Val → Val
pair first second = vstruct (vcons first (vcons second vnil))

-- `E` is the type of the value, and `Z` that of the allocator
module _ (E Z : RattleType) (laws : Laws Z) (ghosts : Ghosts Z.Denot) where
  abbrev pub Row : RattleType
  Row = apart.the_row E Z ghosts

  -- what is owned at an address
  abbrev pub heap : Z.Denot → Ptr → E.Denot → Fml
  heap a p x = box_owns (ghosts.dealloc_token a) E p x

  abbrev allocator : Al
  allocator = record { row = Z; laws = laws; g = ghosts; d = impl [] tnil dnil; drops = impl [] tnil dnil }

  pub pair_fits : (b o : ℕ) (h : Val) → Good (layout Z) h → T (has_ty (layout Z) h && true) × WT (pair (vptr b o) h)
  pair_fits b o h good = (and_tt (has_ty (layout Z) h) good.0, (tt, (good.1, tt)))

  module _ {M : Type 1} {𝓤 : Ura M} {𝓛 : Logic 𝓤} {K : Type 0} {Γ : List (Item 𝓤)} {G : Goal 𝓤 𝓛.H} where
    pub apart_opens : K → (d : Row.Denot) (vs : List Val)
        → ((b o : ℕ) (h : Val) → d.address ≡ block_ptr b o → vs ≡ pair (vptr b o) h ∷ [] → Good (layout Z) h
        → Seq K 𝓛 (‵ (heap d.allocator (block_ptr b o) d.content) ∷ ‵ (Z.own_val d.allocator (h ∷ [])) ∷ Γ) G)
        → Seq K 𝓛 (‵ (Row.own_val d vs) ∷ Γ) G
    apart_opens t d vs rest =
        fsplit t $ fpick t (λ parts. fsplit t $ feq_l t (λ whole. fsplit t $ feq_l t (λ first. fsplit t $
        handle_tells allocator t d.allocator parts.1.0 (λ h second good. move t (1 ∷ []) $ drop t $ move t (1 ∷ []) $
        in_a_block t d.address (λ p. heap d.allocator p d.content)
        (fst∗ 𝓤 (never 𝓤) (sem 𝓛 (ghosts.dealloc_token d.allocator (untyped (lone E.mir)) null_ptr))) (λ b o at.
        let with_first : vs ≡ vstruct (of_list (ptr_val d.address ∷ (parts.1.0 ++ []))) ∷ [] =
        subst (λ (us : List Val). vs ≡ vstruct (of_list (us ++ (parts.1.0 ++ []))) ∷ []) first whole in
        let with_both : vs ≡ vstruct (of_list (ptr_val d.address ∷ h ∷ [])) ∷ [] =
        subst (λ (us : List Val). vs ≡ vstruct (of_list (ptr_val d.address ∷ (us ++ []))) ∷ []) second with_first in
        rest b o h at (subst (λ (p : Ptr). vs ≡ vstruct (of_list (ptr_val p ∷ h ∷ [])) ∷ []) at with_both) good)))))

    pub apart_made : K → (b o : ℕ) (h : Val) (a : Z.Denot) (x : E.Denot)
        → Step K 𝓛 (‵ (Row.own_val (record { address = block_ptr b o; allocator = a; content = x }) (pair (vptr b o) h ∷ [])) ∷ Γ) G
        (‵ (heap a (block_ptr b o) x) ∷ ‵ (Z.own_val a (h ∷ [])) ∷ Γ) G
    apart_made t b o h a x = step (λ rest.
        let word : Val = pair (vptr b o) h in let first : List Val = vptr b o ∷ [] in
        nothing t $ move t (2 ∷ 0 ∷ []) $ fjoin t $ feq_i t (List Val) first first refl $ fjoin t $
        feq_i t (List Val) (word ∷ []) (word ∷ []) refl $ fjoin t $
        fpack t (Valss (RawPtr ∷ Z ∷ [])) (within (shape (apart.the_type E Z ghosts)) (block_ptr b o, (a, tt)) (word ∷ []))
        (first, (h ∷ [], tt)) $ fjoin t $ rest)
