use Rattle.std.proofs.Common.{◌≡◌, Bool, true, Some, refl, sym, subst, arith}
use Rattle.json.proofs.Grammar.{read_key-shorter}
use Rattle.serde_json.specs.Data.{no_members, put}
use Rattle.jsonptr_text_search.proofs.ReadingLemmas.{members_begin, members_go_on, members_close, a_key, no_key}
use Rattle.jsonptr_text_check.specs.PrivateEditing.{MembersAdded}
use Rattle.jsonptr_text_check.proofs.AddingLemmas.{members_after}
use Rattle.jsonptr_text_check.proofs.SideLemmas.{no_name}
use Rattle.jsonptr_text_check.proofs.added.add_member.Goals as goal

pub members-init : goal.members-init
members-init c = (no_members, no_members, members_begin c.args.depth c.args.readers.now.one, members_begin c.args.depth c.args.readers.now.two, (refl, λ l other. refl), omega arith, omega arith)

pub members-preserved : goal.members-preserved
members-preserved c =
    let i = c.members.invariant in
    let r = c.in_ok-visit_member.ensures.passed in
    let named = a_key c.in_ok-name.field-0 c.in-Some.name c.members.readers.two c.next_key.new.self c.in_ok-name.ensures.value c.in-Some.is in
    let passed = read_key-shorter c.members.readers.two (Some c.in-Some.name.now) c.next_key.new.self named in
    let less = c.in_ok-visit_member.ensures.two_shorter in
    let short = c.in_ok-visit_member.ensures.one_shorter in
    let may : c.may_follow.result ≡ true = grind arith in
    let next = members_after c.members.is_done c.is_at-wanted.result c.is_text-named.result c.args.member.key.now c.in-Some.name.now c.args.depth c.args.json.now c.args.readers.now.one c.members.readers.one c.visit_member.new.readers.one i.0 i.1 r.0 i.2 i.4 r.2 c.is_text-named.ensures (c.may_follow.ensures may) in (
      next.0,
      put c.in-Some.name.now r.0 i.1,
      next.1,
      members_go_on c.args.depth c.args.readers.now.two c.members.readers.two c.next_key.new.self c.visit_member.new.readers.two c.in-Some.name.now r.0 i.1 i.3 named r.1 (omega (arith, less, passed)),
      subst (λ (b : Bool). MembersAdded b c.args.member.key.now c.args.json.now next.0 (put c.in-Some.name.now r.0 i.1)) (sym c.is_either-is_done.ensures) next.2,
      omega (arith, i.5, short),
      omega (arith, i.6, less, passed),
    )

pub returns-clause-passed : goal.returns-clause-passed
returns-clause-passed c =
    let i = c.members.invariant in
    let done : c.members.is_done ≡ true = grind arith in
    let h = subst (λ (b : Bool). MembersAdded b c.args.member.key.now c.args.json.now i.0 i.1) done i.4 in (
      i.0,
      i.1,
      h.0,
      members_close c.args.depth c.args.readers.now.one c.members.readers.one c.next_key-2.new.self i.0 i.2 (no_name c.in_ok-next_key.field-0 c.members.readers.one c.next_key-2.new.self c.is_some.result c.in_ok-next_key.ensures.value c.is_some.ensures (grind arith)),
      members_close c.args.depth c.args.readers.now.two c.members.readers.two c.next_key.new.self i.1 i.3 (no_key c.in_ok-name.field-0 c.members.readers.two c.next_key.new.self c.in_ok-name.ensures.value c.in_default.not-Some),
      h.1,
      h.2,
    )
