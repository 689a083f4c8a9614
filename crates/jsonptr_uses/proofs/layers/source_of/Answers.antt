use Rattle.serde_json.specs.View.{view}
use Rattle.jsonptr.specs.Pointer.{tokens}
use Rattle.jsonptr_uses.proofs.LayersLemmas.{found_is, found_some, found_none, from_members, from_user, from_site, from_defaults}
use Rattle.jsonptr_uses.proofs.layers.source_of.Goals as goal

pub returns-then-is_object-clause-source : goal.returns-then-is_object-clause-source
returns-then-is_object-clause-source c =
    let found = found_is c.in_ok-setting.field-0 c.in-Some.setting _ _ c.in-Some.is c.in_ok-setting.ensures.found in
    from_members c.args.layers.now (tokens c.args.pointer) (view c.args.made.now) (view c.in-Some.setting.now) c.requires found c.is_object.result c.is_object.ensures c.if-is_object.true

pub returns-then-is_some-clause-source : goal.returns-then-is_some-clause-source
returns-then-is_some-clause-source c =
    let found = found_is c.in_ok-setting.field-0 c.in-Some.setting _ _ c.in-Some.is c.in_ok-setting.ensures.found in
    let given = found_some c.in_ok-find.field-0 _ _ c.is_some.result c.is_some.ensures c.if-is_some.true c.in_ok-find.ensures.found in
    from_user c.args.layers.now (tokens c.args.pointer) (view c.args.made.now) (view c.in-Some.setting.now) c.requires found c.is_object.result c.is_object.ensures c.if-is_object.false (view given.0.now) given.1

pub returns-then-is_some-2-clause-source : goal.returns-then-is_some-2-clause-source
returns-then-is_some-2-clause-source c =
    let found = found_is c.in_ok-setting.field-0 c.in-Some.setting _ _ c.in-Some.is c.in_ok-setting.ensures.found in
    let no_user = found_none c.in_ok-find.field-0 _ _ c.is_some.result c.is_some.ensures c.if-is_some.false c.in_ok-find.ensures.found in
    let given = found_some c.in_ok-find-2.field-0 _ _ c.is_some-2.result c.is_some-2.ensures c.if-is_some-2.true c.in_ok-find-2.ensures.found in
    from_site c.args.layers.now (tokens c.args.pointer) (view c.args.made.now) (view c.in-Some.setting.now) c.requires found c.is_object.result c.is_object.ensures c.if-is_object.false no_user (view given.0.now) given.1

pub returns-clause-source : goal.returns-clause-source
returns-clause-source c =
    let found = found_is c.in_ok-setting.field-0 c.in-Some.setting _ _ c.in-Some.is c.in_ok-setting.ensures.found in
    let no_user = found_none c.in_ok-find.field-0 _ _ c.is_some.result c.is_some.ensures c.if-is_some.false c.in_ok-find.ensures.found in
    let no_site = found_none c.in_ok-find-2.field-0 _ _ c.is_some-2.result c.is_some-2.ensures c.if-is_some-2.false c.in_ok-find-2.ensures.found in
    from_defaults c.args.layers.now (tokens c.args.pointer) (view c.args.made.now) (view c.in-Some.setting.now) c.requires found c.is_object.result c.is_object.ensures c.if-is_object.false no_user no_site
