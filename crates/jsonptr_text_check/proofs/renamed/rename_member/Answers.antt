use Rattle.std.proofs.Common.{◌≡◌, Bool, true, Some, refl, sym, subst, arith}
use Rattle.json.proofs.Grammar.{read_key-shorter}
use Rattle.serde_json.specs.Data.{no_members, put}
use Rattle.jsonptr_text_search.proofs.ReadingLemmas.{members_begin, members_go_on, members_close, a_key, no_key}
use Rattle.jsonptr_text_check.specs.PrivateRenaming.{MembersRenamed}
use Rattle.jsonptr_text_check.proofs.RenamingLemmas.{one_renamed}
use Rattle.jsonptr_text_check.proofs.SideLemmas.{no_name}
use Rattle.jsonptr_text_check.proofs.renamed.rename_member.Goals as goal

pub members-init : goal.members-init
members-init c = (no_members, no_members, members_begin c.args.depth c.args.readers.now.one, members_begin c.args.depth c.args.readers.now.two, (refl, refl, refl), omega arith, omega arith)

pub members-preserved : goal.members-preserved
members-preserved c =
    let i = c.members.invariant in
    let r = c.in_ok-same.ensures.passed in
    let named = a_key c.in_ok-name.field-0 c.in-Some.name c.members.readers.one c.next_key.new.self c.in_ok-name.ensures.value c.in-Some.is in
    let twin = c.in_ok-same_key.ensures in
    let less = c.in_ok-same.ensures.one_shorter in
    let less_too = c.in_ok-same.ensures.two_shorter in
    let passed = read_key-shorter c.members.readers.one (Some c.in-Some.name.now) c.next_key.new.self named in
    let passed_too = read_key-shorter c.members.readers.two (Some c.key_after.result.now) c.same_key.new.reader twin in
    let may : c.may_pass.result ≡ true = grind arith in (
      put c.in-Some.name.now r.0 i.0,
      put c.key_after.result.now r.0 i.1,
      members_go_on c.args.depth c.args.readers.now.one c.members.readers.one c.next_key.new.self c.same.new.one c.in-Some.name.now r.0 i.0 i.2 named r.1 (omega (arith, less, passed)),
      members_go_on c.args.depth c.args.readers.now.two c.members.readers.two c.same_key.new.reader c.same.new.two c.key_after.result.now r.0 i.1 i.3 twin r.2 (omega (arith, less_too, passed_too)),
      subst (λ (b : Bool). MembersRenamed b c.args.from.now c.args.to.now (put c.in-Some.name.now r.0 i.0) (put c.key_after.result.now r.0 i.1)) (sym c.is_either-is_done.ensures)
          (one_renamed c.members.is_done c.is_text-named.result c.is_text-taken.result c.args.from.now c.args.to.now c.in-Some.name.now c.key_after.result.now i.0 i.1 r.0 i.4 c.is_text-named.ensures c.is_text-taken.ensures (c.may_pass.ensures may) c.key_after.ensures),
      omega (arith, i.5, less, passed),
      omega (arith, i.6, less_too, passed_too),
    )

pub returns-clause-passed : goal.returns-clause-passed
returns-clause-passed c =
    let i = c.members.invariant in
    let done : c.members.is_done ≡ true = grind arith in
    let h = subst (λ (b : Bool). MembersRenamed b c.args.from.now c.args.to.now i.0 i.1) done i.4 in (
      i.0,
      i.1,
      h.0,
      members_close c.args.depth c.args.readers.now.one c.members.readers.one c.next_key.new.self i.0 i.2 (no_key c.in_ok-name.field-0 c.members.readers.one c.next_key.new.self c.in_ok-name.ensures.value c.in_default.not-Some),
      members_close c.args.depth c.args.readers.now.two c.members.readers.two c.next_key-2.new.self i.1 i.3 (no_name c.in_ok-next_key.field-0 c.members.readers.two c.next_key-2.new.self c.is_some.result c.in_ok-next_key.ensures.value c.is_some.ensures (grind arith)),
      h.1,
    )
