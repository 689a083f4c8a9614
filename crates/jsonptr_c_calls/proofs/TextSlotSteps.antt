-- Steps of walks that open a `TextSlot` and that make one.
--     single                     the machine value of a struct with one field
--     slot_opens, slot_made      a slot that owns a text is the text on the heap
--     slot_made_vacant           nothing makes a slot that owns nothing
use Rattle.std.proofs.Common.{◌≡◌, ℕ, List, [], ◌∷◌, ◌++◌, refl, subst}
use seplogic.Ra.Ura.{Ura}
use mir.Raw.{raw as untyped}
use mir.Val.{Val, vptr, vstruct, vcons, vnil, of_list}
use base.Fml.{Fml}
use base.Logic.{never, fst∗}
use types.Logic.{Logic, sem}
use types.Kit.{Item, Goal, Seq, Step, step, ‵, ◌$◌, drop, fsplit, fjoin, fpick, fpack, rewrite, feq_i, feq_l}
use denote.RattleType.{RattleType, Valss}
use denote.Builtin.{RawPtr}
use denote.Memory.{lone}
use denote.RawPtr.{Ptr, block_ptr, null_ptr, ptr_val, in_a_block}
use denote.Steps.{nothing}
use denote.Struct.Struct.{within}
use denote.Struct.Owning.{shape}
use Rattle.std.specs.Prelude.{Option, Some, None}
use Rattle.std.specs.Box.Ownership.{box_owns}
use Rattle.std.specs.declared.alloc.Global.{Global}
use Rattle.std.specs.contracts.impls.GlobalAllocator.TheImpl.{ghosts}
use Rattle.jsonptr_c_calls.specs.declared.open_text.OpenText.{OpenText}
use Rattle.jsonptr_c_calls.specs.contracts.open_text.OpenText as held
use Rattle.jsonptr_c_calls.specs.TextSlot.{text_slot_owns}
use Rattle.jsonptr_c_calls.specs.contracts.text_slot.TextSlot as slot

abbrev pub single : Val → Val
single field = vstruct (vcons field vnil)

abbrev pub null_word : Val
null_word = ptr_val null_ptr

abbrev pub no_value : Option OpenText
no_value = None

abbrev pub Held : RattleType
Held = held.the_row

abbrev pub Row : RattleType
Row = slot.the_row

-- what is owned at an address
abbrev pub heap : Global → Ptr → OpenText → Fml
heap a p x = box_owns (ghosts.dealloc_token a) Held p x

module _ {M : Type 1} {𝓤 : Ura M} {𝓛 : Logic 𝓤} {K : Type 0} {Γ : List (Item 𝓤)} {G : Goal 𝓤 𝓛.H} where
  pub slot_opens : K → (d : Row.Denot) (x : OpenText) → d.content ≡ Some x → (vs : List Val)
      → ((a : Global) (b o : ℕ) → d.address ≡ block_ptr b o → vs ≡ single (vptr b o) ∷ []
      → Seq K 𝓛 (‵ (heap a (block_ptr b o) x) ∷ Γ) G)
      → Seq K 𝓛 (‵ (Row.own_val d vs) ∷ Γ) G
  slot_opens t d x holds vs rest =
      fsplit t $ fpick t (λ parts. fsplit t $ feq_l t (λ whole. fsplit t $ feq_l t (λ field. drop t $
      rewrite t 0 (λ (content : Option OpenText). ‵ (text_slot_owns d.address content)) holds refl $
      fpick t (λ (a : Global). in_a_block t d.address (λ p. heap a p x)
      (fst∗ 𝓤 (never 𝓤) (sem 𝓛 (ghosts.dealloc_token a (untyped (lone Held.mir)) null_ptr))) (λ b o at.
      let with_field : vs ≡ vstruct (of_list (ptr_val d.address ∷ [])) ∷ [] =
      subst (λ (us : List Val). vs ≡ vstruct (of_list (us ++ [])) ∷ []) field whole in
      rest a b o at (subst (λ (p : Ptr). vs ≡ vstruct (of_list (ptr_val p ∷ [])) ∷ []) at with_field))))))

  pub slot_made : K → (a : Global) (b o : ℕ) (x : OpenText)
      → Step K 𝓛 (‵ (Row.own_val (record { address = block_ptr b o; content = Some x }) (single (vptr b o) ∷ [])) ∷ Γ) G
      (‵ (heap a (block_ptr b o) x) ∷ Γ) G
  slot_made t a b o x = step (λ rest.
      let word : Val = single (vptr b o) in let field : List Val = vptr b o ∷ [] in
      fpack t Global (λ (g : Global). heap g (block_ptr b o) x) a $ nothing t $ feq_i t (List Val) field field refl $ fjoin t $
      feq_i t (List Val) (word ∷ []) (word ∷ []) refl $ fjoin t $
      fpack t (Valss (RawPtr ∷ [])) (within (shape slot.the_type) (block_ptr b o, tt) (word ∷ [])) (field, tt) $ fjoin t $ rest)

  pub slot_made_vacant : K
      → Step K 𝓛 (‵ (Row.own_val (record { address = null_ptr; content = None }) (single null_word ∷ [])) ∷ Γ) G Γ G
  slot_made_vacant t = step (λ rest.
      let word : Val = single null_word in let field : List Val = null_word ∷ [] in
      nothing t $ nothing t $ feq_i t (List Val) field field refl $ fjoin t $
      feq_i t (List Val) (word ∷ []) (word ∷ []) refl $ fjoin t $
      fpack t (Valss (RawPtr ∷ [])) (within (shape slot.the_type) (null_ptr, tt) (word ∷ [])) (field, tt) $ fjoin t $ rest)
