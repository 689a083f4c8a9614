-- The lines of a document are read back: each as the pointer and the value of its node, and all of them as the document.
use Rattle.std.proofs.Common.{◌≡◌, ◌≢◌, inl, inr, ℕ, ◌+◌, ◌<◌, ◌≤◌, List, [], ◌∷◌, ◌++◌, length, Option, Some, None, IsSome, option_map, All, refl, sym, ap, ap₂, subst, ◌∙◌, arith, append_assoc, append-nil}
use Rattle.std.specs.List.{AllByRecursion}
use Rattle.std.proofs.lemmas.List.Elements.{All-append, All-cons, recursion_from_All}
use Rattle.serde_json.specs.Data.{Data, null, boolean, number, string, array, object, no_items, no_members, depth}
use Rattle.serde_json.specs.Read.{read, max_depth}
use Rattle.jsonptr.specs.Text.{Text, text}
use Rattle.jsonptr.specs.Node.{Step, key, place, Path, NodeMap, Names, IsTree}
use Rattle.jsonptr.specs.Content.{label_of}
use Rattle.jsonptr.specs.Json.{content, nodes, FindsValue, HasSortedKeys}
use Rattle.jsonptr.specs.Assign.{assign_position_of, assign_offset_of}
use Rattle.jsonptr.specs.Landing.{Lands, LandsNowhere}
use Rattle.jsonptr.specs.Assigning.{Assigns}
use Rattle.jsonptr.proofs.Calling.{text_one, map_of-IsTree, nodes_one}
use Rattle.jsonptr_value.specs.Nesting.{IsContainer}
use Rattle.jsonptr_value.proofs.LevelLemmas.{NestsWithin-depth}
use Rattle.jsonptr_value.proofs.NestingLemmas.{Names-within}
use Rattle.jsonptr_tree.proofs.NodeLemmas.{Names-length}
use Rattle.jsonptr_tree.proofs.LandingLemmas.{Lands_named, Lands-LandsNowhere}
use Rattle.jsonptr_io.specs.Lines.{IsOneLine, AreLines}
use Rattle.jsonptr_io.proofs.LineLemmas.{one_lines}
use Rattle.jsonptr_text_paths.specs.Walking.{Before, IsWalk}
use Rattle.jsonptr_value.specs.JsonText.{IsCompact}
use Rattle.jsonptr_text_paths.specs.Listing.{emptied, IsField, IsLineOf, AreShown, Lists}
use Rattle.jsonptr_text_paths.specs.Building.{CutsAt, ReadsField, ReadsLine, FitsDepth, AssignsLine, AssignsLines, Builds, IsLineError, StopsBuilding}
use Rattle.jsonptr_text_paths.specs.PrivateRebuilding.{IsPart, IsNext, IsEmptied, Named, IsRow, AreRows}
use Rattle.jsonptr_text_paths.specs.declared.listing.Listed.TheVariants.{AllNodes}
use Rattle.jsonptr_text_paths.specs.declared.build.LineError.{LineError}
use Rattle.jsonptr_text_paths.specs.declared.build.LineError.TheVariants.{NoTab, NotPointer, NotJson, TooDeep, Assign}
use Rattle.jsonptr_text_paths.specs.declared.build.BuildError.TheVariants.{Line}
use Rattle.jsonptr_text_paths.proofs.OrderLemmas.{next_of, first_of_walk, no_walk, part_same, named_more, more_named, all_named}
use Rattle.jsonptr_text_paths.proofs.RebuildingLemmas.{part_lands, assigned_next, assigned_root, whole_part}
use Rattle.jsonptr_text_paths.proofs.PlainLemmas.{plain_quoted, plain_printed, read_quoted, read_pointer}

-- parts of a line

pub cut_one : (c : ℕ) (a b x y : Text) → AllByRecursion (λ z. z ≢ c) a → AllByRecursion (λ z. z ≢ c) b → a ++ c ∷ x ≡ b ++ c ∷ y → (a ≡ b) × (x ≡ y)
cut_one c [] [] x y h k e = (refl, cc)
cut_one c [] (z ∷ b) x y h k e = let same : z ≡ c = cc in absurd (k.0 same)
cut_one c (z ∷ a) [] x y h k e = let same : z ≡ c = cc in absurd (h.0 same)
cut_one c (z ∷ a) (w ∷ b) x y h k e =
    let same : z ≡ w = cc in
    let r = cut_one c a b x y h.1 k.1 (cc) in
    (ap₂ (λ (p : ℕ) (q : Text). p ∷ q) same r.0, r.1)

plain_lacks : (c : ℕ) (t : Text) → c < 32 → All (λ b. 32 ≤ b) t → All (λ b. b ≢ c) t
plain_lacks c t low h k d inside e = omega (arith, h k d inside)

field_plain : (p field : Text) → IsField p field → All (λ b. 32 ≤ b) field
field_plain p field h = elim h [
  | inl plain ↦ subst (All (λ b. 32 ≤ b)) (sym plain.1) plain.0
  | inr quote ↦ subst (All (λ b. 32 ≤ b)) (sym quote.1) (plain_quoted p)
]

-- a field is read as its pointer, and as no other one
field_reads : (ts : List Text) (field : Text) → IsField (text ts) field → ReadsField field ts
field_reads ts field h = elim h [
  | inl plain ↦ inl plain.1
  | inr quote ↦ inr (ap read quote.1 ∙ read_quoted (text ts))
]

field_one : (ts us : List Text) (field : Text) → IsField (text ts) field → ReadsField field us → us ≡ ts
field_one ts us field h r = elim h [
  | inl plain ↦ elim r [
    | inl e ↦ text_one us ts (sym e ∙ plain.1)
    | inr e ↦ absurd (read_pointer ts (string (text us)) (ap read (sym plain.1) ∙ e))
  ]
  | inr quote ↦
      let whole : read field ≡ Some (string (text ts)) = ap read quote.1 ∙ read_quoted (text ts) in
      elim r [
        | inl e ↦ absurd (read_pointer us (string (text ts)) (ap read (sym e) ∙ whole))
        | inr e ↦ let same : text us ≡ text ts = cc in text_one us ts same
      ]
]

-- a scalar and an empty container nest at most one deep
emptied_depth : (v : Data) → depth (emptied v) ≤ max_depth
emptied_depth null = omega arith
emptied_depth (boolean b) = omega arith
emptied_depth (number n) = omega arith
emptied_depth (string s) = omega arith
emptied_depth (array ds) = omega arith
emptied_depth (object ms) = omega arith

-- the value and the pointer that are read from a row
row_reads : (d : Data) (ts : List Text) (l : Text) → IsRow d ts l → (v : Data) × FindsValue d ts v × ReadsLine l ts (emptied v)
row_reads d ts l row =
    let field = row.1 in
    let short = row.2 in
    (row.0, row.3, (field, short, (plain_lacks 9 field (omega arith) (field_plain (text ts) field row.4), row.6), field_reads ts field row.4, row.5.reads_back (emptied_depth row.0)))

row_one : (d : Data) (ts us : List Text) (l : Text) (row : IsRow d ts l) (field json : Text) → CutsAt 9 l field json → (IsField (text ts) field) × (json ≡ row.2)
row_one d ts us l row field json cut =
    let plain = recursion_from_All (λ b. b ≢ 9) row.1 (plain_lacks 9 row.1 (omega arith) (field_plain (text ts) row.1 row.4)) in
    let one = cut_one 9 field row.1 json row.2 (recursion_from_All (λ b. b ≢ 9) field cut.0) plain (sym cut.1 ∙ row.6) in
    (subst (IsField (text ts)) (sym one.0) row.4, one.1)

row_value : (d : Data) (ts us : List Text) (l : Text) (v : Data) (row : IsRow d ts l) → ReadsLine l us v → (us ≡ ts) × (v ≡ emptied row.0)
row_value d ts us l v row reads =
    let one = row_one d ts us l row reads.0 reads.1 reads.2 in
    let whole : Some v ≡ Some (emptied row.0) = sym reads.4 ∙ ap read one.1 ∙ row.5.reads_back (emptied_depth row.0) in
    (field_one ts us reads.0 one.0 reads.3, cc)

-- the lines that are shown

one_line : (p : Text) (v : Data) (field short : Text) → IsField p field → IsCompact v short → IsOneLine (field ++ 9 ∷ short)
one_line p v field short f s =
    let P : ℕ → Type 0 = λ b. b ≢ 10 in
    let first : All P field = plain_lacks 10 field (omega arith) (field_plain p field f) in
    let last : All P short = plain_lacks 10 short (omega arith) (plain_printed short s.compact) in
    All-append P field (9 ∷ short) first (All-cons P 9 short (λ e. omega arith) last)

joined : (field short : Text) → field ++ 9 ∷ (short ++ 10 ∷ []) ≡ (field ++ 9 ∷ short) ++ 10 ∷ []
joined field short = sym (append_assoc field (9 ∷ short) (10 ∷ []))

pub line_one : (p : Text) (v : Data) (line : Text) → IsLineOf p v line → (l : Text) × (line ≡ l ++ 10 ∷ []) × IsOneLine l
line_one p v line h = (h.0 ++ 9 ∷ h.1, h.4 ∙ joined h.0 h.1, one_line p (emptied v) h.0 h.1 h.2 h.3)

rows_made : (d : Data) (lists : List (List Text)) (out : Text) → AreShown AllNodes d lists out → (ls : List Text) × AreRows d lists ls × AreLines out ls
rows_made d [] out a = ([], tt, a)
rows_made d (ts ∷ lists) out a =
    let more = rows_made d lists a.2 a.5 in
    let shown = a.4 in
    let l = shown.0 ++ 9 ∷ shown.1 in
    let row : IsRow d ts l = (a.0, shown.0, shown.1, a.3, shown.2, shown.3, refl) in
    let split : out ≡ l ++ 10 ∷ a.2 = a.6 ∙ ap (λ (t : Text). t ++ a.2) (shown.4 ∙ joined shown.0 shown.1) ∙ append_assoc l (10 ∷ []) a.2 in
    (l ∷ more.0, (row, more.1), (one_line (text ts) (emptied a.0) shown.0 shown.1 shown.2 shown.3, inl (a.2, split, more.2)))

-- a row among the others

rows_split : (d : Data) (lists : List (List Text)) (before : List Text) (l : Text) (after : List Text) → AreRows d lists (before ++ l ∷ after) → (above below : List (List Text)) × (ts : List Text) × (lists ≡ above ++ ts ∷ below) × AreRows d above before × IsRow d ts l
rows_split d [] [] l after h = absurd h
rows_split d (ts ∷ lists) [] l after h = ([], lists, ts, refl, tt, h.0)
rows_split d [] (k ∷ before) l after h = absurd h
rows_split d (us ∷ lists) (k ∷ before) l after h =
    let r = rows_split d lists before l after h.1 in
    (us ∷ r.0, r.1, r.2, ap (λ (z : List (List Text)). us ∷ z) r.3, (h.0, r.4), r.5)

-- what rows build

emptied_is : (v : Data) → IsEmptied (nodes (emptied v)) (Some (label_of (content v)))
emptied_is null = record { root = refl; alone = λ s w. refl }
emptied_is (boolean b) = record { root = refl; alone = λ s w. refl }
emptied_is (number n) = record { root = refl; alone = λ s w. refl }
emptied_is (string t) = record { root = refl; alone = λ s w. refl }
emptied_is (array ds) = record { root = refl; alone = none }
  where
    none : (s : Step) (w : Path) → nodes (array no_items) (s ∷ w) ≡ None
    none (key k) w = refl
    none (place i) w = refl
emptied_is (object ms) = record { root = refl; alone = none }
  where
    none : (s : Step) (w : Path) → nodes (object no_members) (s ∷ w) ≡ None
    none (key k) w = refl
    none (place i) w = refl

row_emptied : (d v : Data) (ts : List Text) (f : FindsValue d ts v) → IsEmptied (nodes (emptied v)) (nodes d f.path)
row_emptied d v ts f = subst (IsEmptied (nodes (emptied v))) (sym (ap (option_map label_of) f.there)) (emptied_is v)

row_assigns : (d : Data) (ts : List Text) (l : Text) (m k : NodeMap) (row : IsRow d ts l) → AssignsLine m l k → (old : Option NodeMap) × Assigns m ts (nodes (emptied row.0)) k old
row_assigns d ts l m k row a =
    let one = row_value d ts a.0 l a.1 row a.3 in
    (a.2, subst (λ (us : List Text). Assigns m us (nodes (emptied row.0)) k a.2) one.0 (subst (λ (v : Data). Assigns m a.0 (nodes v) k a.2) one.1 a.5))

not_root : (n m : NodeMap) (Seen : Path → Type 0) (p : Path) → IsPart n Seen m → IsNext n Seen p → p ≢ []
not_root n m Seen p part next e = subst (Before []) e (next.after [] (part.seen [] part.tree.root))

row_next : (d : Data) (above below : List (List Text)) (ts : List Text) (l : Text) (m k : NodeMap) → IsWalk (nodes d) (above ++ ts ∷ below) → IsPart (nodes d) (Named (nodes d) above) m → IsRow d ts l → AssignsLine m l k → IsPart (nodes d) (Named (nodes d) (above ++ ts ∷ [])) k
row_next d above below ts l m k walk part row a =
    let n = nodes d in
    let f = row.3 in
    let tree : IsTree n = map_of-IsTree (content d) in
    let next = next_of n above below ts f.path tree walk f.named in
    let lands = part_lands n m (Named n above) ts f.path tree part next (not_root n m (Named n above) f.path part next) f.named in
    let assigns = row_assigns d ts l m k row a in
    let more = assigned_next n m (nodes (emptied row.0)) k assigns.0 (Named n above) ts f.path part next lands (map_of-IsTree (content (emptied row.0))) (row_emptied d row.0 ts f) assigns.1 in
    part_same n k _ (Named n (above ++ ts ∷ [])) (λ w. named_more n above ts f.path w f.named) (λ w. more_named n above ts f.path w f.named) more

rows_build : (d : Data) (above lists below : List (List Text)) (ls : List Text) (m k : NodeMap) → IsWalk (nodes d) (above ++ (lists ++ below)) → IsPart (nodes d) (Named (nodes d) above) m → AreRows d lists ls → AssignsLines m ls k → IsPart (nodes d) (Named (nodes d) (above ++ lists)) k
rows_build d above [] below [] m k walk part rows a =
    let n = nodes d in
    subst (λ (z : List (List Text)). IsPart n (Named n z) k) (sym (append-nil above)) (subst (IsPart n (Named n above)) (sym a) part)
rows_build d above [] below (l ∷ ls) m k walk part rows a = absurd rows
rows_build d above (ts ∷ lists) below [] m k walk part rows a = absurd rows
rows_build d above (ts ∷ lists) below (l ∷ ls) m k walk part rows a =
    let n = nodes d in
    let one = row_next d above (lists ++ below) ts l m a.0 walk part rows.0 a.1 in
    let same : above ++ (ts ∷ (lists ++ below)) ≡ (above ++ ts ∷ []) ++ (lists ++ below) = sym (append_assoc above (ts ∷ []) (lists ++ below)) in
    subst (λ (z : List (List Text)). IsPart n (Named n z) k) (append_assoc above (ts ∷ []) lists)
    (rows_build d (above ++ ts ∷ []) lists below ls a.0 k (subst (IsWalk n) same walk) one rows.1 a.2)

root_some : (d : Data) → IsSome (nodes d [])
root_some d = refl

row_first : (d : Data) (below : List (List Text)) (ts : List Text) (l : Text) (k : NodeMap) → IsWalk (nodes d) (ts ∷ below) → IsRow d ts l → AssignsLine (nodes null) l k → IsPart (nodes d) (Named (nodes d) (ts ∷ [])) k
row_first d below ts l k walk row a =
    let n = nodes d in
    let first : ts ≡ [] = first_of_walk n ts below (root_some d) walk in
    let f = row.3 in
    let here : f.path ≡ [] = at_root f.path (subst (λ (us : List Text). Names n us f.path) first f.named) in
    let e : IsEmptied (nodes (emptied row.0)) (n []) = subst (λ (p : Path). IsEmptied (nodes (emptied row.0)) (n p)) here (row_emptied d row.0 ts f) in
    let assigns = row_assigns d ts l (nodes null) k row a in
    let part = assigned_root n (nodes null) (nodes (emptied row.0)) k assigns.0 (root_some d) refl (map_of-IsTree (content (emptied row.0))) e (subst (λ (us : List Text). Assigns (nodes null) us (nodes (emptied row.0)) k assigns.0) first assigns.1) in
    part_same n k _ (Named n (ts ∷ [])) (λ w h. (ts, inl refl, named w first h)) (λ w h. only w first h) part
  where
    at_root : (p : Path) → Names (nodes d) [] p → p ≡ []
    at_root [] h = refl
    at_root (s ∷ p) h = absurd h

    named : (w : Path) → ts ≡ [] → w ≡ [] → Names (nodes d) ts w
    named w first h = subst (λ (us : List Text). Names (nodes d) us w) (sym first) (subst (λ (p : Path). Names (nodes d) [] p) (sym h) (root_some d))

    only : (w : Path) → ts ≡ [] → Named (nodes d) (ts ∷ []) w → w ≡ []
    only w first h = elim h.1 [
      | inl same ↦ at_root w (subst (λ (us : List Text). Names (nodes d) us w) (same ∙ first) h.2)
      | inr none ↦ absurd none
    ]

-- the first rows of a walk, of which there are some
first_build : (d : Data) (us : List Text) (lists below : List (List Text)) (ls : List Text) (k : NodeMap) → IsWalk (nodes d) ((us ∷ lists) ++ below) → AreRows d (us ∷ lists) ls → AssignsLines (nodes null) ls k → IsPart (nodes d) (Named (nodes d) (us ∷ lists)) k
first_build d us lists below [] k walk rows a = absurd rows
first_build d us lists below (l ∷ ls) k walk rows a = rows_build d (us ∷ []) lists below ls a.0 k walk (row_first d (lists ++ below) us l a.0 walk rows.0 a.1) rows.1 a.2

pub rebuilt : (d : Data) (out : Text) (k : NodeMap) → Lists AllNodes d out → Builds out k → k ≡ nodes d
rebuilt d out k lists builds = go lists.0 lists.1 lists.2
  where
    go : (ws : List (List Text)) → IsWalk (nodes d) ws → AreShown AllNodes d ws out → k ≡ nodes d
    go [] walk shown = absurd (no_walk (nodes d) (root_some d) walk)
    go (us ∷ ws) walk shown =
        let n = nodes d in
        let made = rows_made d (us ∷ ws) out shown in
        let same : builds.0 ≡ made.0 = one_lines builds.0 made.0 out builds.1 made.2 in
        let a : AssignsLines (nodes null) made.0 k = subst (λ (ls : List Text). AssignsLines (nodes null) ls k) same builds.2 in
        let part = first_build d us ws [] made.0 k (subst (IsWalk n) (sym (append-nil (us ∷ ws))) walk) made.1 a in
        whole_part n k (Named n (us ∷ ws)) (map_of-IsTree (content d)) part (λ w some. all_named n (us ∷ ws) (map_of-IsTree (content d)) walk w some)

-- with sorted keys it is the same value
pub rebuilt_value : (d e : Data) (out : Text) → HasSortedKeys d → HasSortedKeys e → Lists AllNodes d out → Builds out (nodes e) → e ≡ d
rebuilt_value d e out a b lists builds = nodes_one e d b a (rebuilt d out (nodes e) lists builds)

-- where the value of a row lands
row_lands : (d : Data) (above below : List (List Text)) (ts : List Text) (l : Text) (before : List Text) (m : NodeMap) → IsWalk (nodes d) (above ++ ts ∷ below) → AreRows d above before → IsRow d ts l → AssignsLines (nodes null) before m → (p : Path) × Lands m ts p []
row_lands d [] below ts l [] m walk rows row a =
    let first : ts ≡ [] = first_of_walk (nodes d) ts below (root_some d) walk in
    ([], subst (λ (us : List Text). Lands m us [] []) (sym first) (subst (λ (k : NodeMap). Lands k [] [] []) (sym a) (Lands_named (nodes null) [] [] refl)))
row_lands d [] below ts l (k ∷ before) m walk rows row a = absurd rows
row_lands d (us ∷ above) below ts l before m walk rows row a =
    let n = nodes d in
    let f = row.3 in
    let tree : IsTree n = map_of-IsTree (content d) in
    let part = first_build d us above (ts ∷ below) before m walk rows a in
    let next = next_of n (us ∷ above) below ts f.path tree walk f.named in
    (f.path, part_lands n m (Named n (us ∷ above)) ts f.path tree part next (not_root n m (Named n (us ∷ above)) f.path part next) f.named)

-- an array or object is above the depth of the document, and an empty one adds one level
emptied_fits : (d v : Data) (ts : List Text) (f : FindsValue d ts v) → length f.path ≤ depth d → (IsContainer (nodes d f.path) → length f.path < depth d) → length f.path + depth (emptied v) ≤ depth d
emptied_fits d null ts f le below = omega (arith, le)
emptied_fits d (boolean b) ts f le below = omega (arith, le)
emptied_fits d (number n) ts f le below = omega (arith, le)
emptied_fits d (string t) ts f le below = omega (arith, le)
emptied_fits d (array ds) ts f le below = let low : length f.path < depth d = below (subst IsContainer (sym (ap (option_map label_of) f.there)) tt) in omega (arith, low)
emptied_fits d (object ms) ts f le below = let low : length f.path < depth d = below (subst IsContainer (sym (ap (option_map label_of) f.there)) tt) in omega (arith, low)

row_fits : (d : Data) (ts : List Text) (l : Text) (row : IsRow d ts l) → length ts + depth (emptied row.0) ≤ depth d
row_fits d ts l row =
    let f = row.3 in
    let same : length ts ≡ length f.path = Names-length (nodes d) ts f.path f.named in
    let few : length ts ≤ depth d = Names-within (depth d) (nodes d) ts f.path (NestsWithin-depth d) f.named in
    let le : length f.path ≤ depth d = omega (arith, same, few) in
    let fits : length f.path + depth (emptied row.0) ≤ depth d = emptied_fits d row.0 ts f le (λ c. NestsWithin-depth d f.path c) in
    omega (arith, same, fits)

pub tab_there : (a x : Text) → AllByRecursion (λ z. z ≢ 9) (a ++ 9 ∷ x) → ⊥
tab_there [] x h = h.0 refl
tab_there (z ∷ a) x h = tab_there a x h.1

row_error : (d : Data) (ts : List Text) (l : Text) (m : NodeMap) (p : Path) (e : LineError) → depth d ≤ 127 → IsRow d ts l → Lands m ts p [] → IsLineError m l e → ⊥
row_error d ts l m p NoTab shallow row lands h = tab_there row.1 row.2 (recursion_from_All (λ b. b ≢ 9) (row.1 ++ 9 ∷ row.2) (subst (All (λ b. b ≢ 9)) row.6 h))
row_error d ts l m p NotPointer shallow row lands h = h.3 ts (field_reads ts h.0 (row_one d ts ts l row h.0 h.1 h.2).0)
row_error d ts l m p NotJson shallow row lands h =
    let none : Some (emptied row.0) ≡ None = sym (row.5.reads_back (emptied_depth row.0)) ∙ ap read (sym (row_one d ts ts l row h.0 h.1 h.3).1) ∙ h.5 in
    let wrong : ⊥ = cc in
    wrong
row_error d ts l m p TooDeep shallow row lands h =
    let one = row_value d ts h.0 l h.1 row h.2 in
    let fits : length ts + depth (emptied row.0) ≤ depth d = row_fits d ts l row in
    let all : FitsDepth ts (emptied row.0) = omega (arith, fits, shallow) in
    h.3 (subst (λ (us : List Text). FitsDepth us h.1) (sym one.0) (subst (FitsDepth ts) (sym one.1) all))
row_error d ts l m p (Assign e) shallow row lands h =
    let same = (row_value d ts h.0 l h.1 row h.2).0 in
    let nowhere : LandsNowhere m ts (assign_position_of e) (assign_offset_of e) h.4.len h.4.token = subst (λ (us : List Text). LandsNowhere m us (assign_position_of e) (assign_offset_of e) h.4.len h.4.token) same h.4.nowhere in
    Lands-LandsNowhere m ts (assign_position_of e) (assign_offset_of e) h.4.len h.4.token p [] lands nowhere

pub never_stops : (d : Data) (out : Text) (i : ℕ) (e : LineError) → depth d ≤ 127 → Lists AllNodes d out → StopsBuilding out (Line i e) → ⊥
never_stops d out i e shallow lists stops =
    let made = rows_made d lists.0 out lists.2 in
    let same : stops.0 ++ stops.2 ∷ stops.1 ≡ made.0 = one_lines (stops.0 ++ stops.2 ∷ stops.1) made.0 out stops.4 made.2 in
    let cut = rows_split d lists.0 stops.0 stops.2 stops.1 (subst (AreRows d lists.0) (sym same) made.1) in
    let walk : IsWalk (nodes d) (cut.0 ++ cut.2 ∷ cut.1) = subst (IsWalk (nodes d)) cut.3 lists.1 in
    let lands = row_lands d cut.0 cut.1 cut.2 stops.2 stops.0 stops.3 walk cut.4 cut.5 stops.6 in
    row_error d cut.2 stops.2 stops.3 lands.0 e shallow cut.5 lands.1 stops.7
