-- The keys of each table of a TOML value or document that is parsed are sorted.
use Rattle.std.proofs.Common.{◌≡◌, Ordering, Less, Equal, Greater, nat_cmp, ℕ, zero, suc, Bool, true, false, if◌then◌else◌, ◌&&◌, ◌==◌, List, [], ◌∷◌, length, drop, slice_index, Option, Some, None, IfSome, option_and_then, option_map, refl, subst}
use Rattle.std.specs.Cmp.Lexicographic.{slice_cmp}
use Rattle.std.specs.Ordering.{match_ordering}
use Rattle.toml_parser.specs.Lexical.{Read, right_bracket, right_brace, left_bracket, left_brace, first, skip_ws, skip_blank}
use Rattle.toml_parser.specs.Strings.{Key, quoted, starts_string, recursion_limit}
use Rattle.toml_parser.specs.Numbers.{unquoted}
use Rattle.toml_parser.specs.declared.scalar.Scalar.{Scalar}
use Rattle.toml_parser.specs.declared.scalar.Scalar.TheVariants.{Boolean, Integer, Float, Datetime}
use Rattle.toml.specs.Data as toml
use Rattle.toml.specs.Data.{Data, array, table, Members, no_members, no_items, item, push_item, same_key}
use Rattle.toml.specs.Tables.{implicit, dotted, header, Node, Nodes, no_nodes, node, value, open_table, open_array, get_node, insert, replace, close, close_node, Edit, header_node, dot_node, by_header, by_dot, along_header, along_dots, Definition, Expression, key_value, std_table, array_table, new_node, redefine, at_found, at_key, put, Document, define}
use Rattle.toml.specs.Parse.{after_byte, after_element, key_equals, keyval, items, members, scalar_data, atom, val, header_key, expression, line, ends_line, lines, skip_bom, parse_document, parse_value}
use Rattle.jsonptr_tree.specs.Content.{KeysAbove, SortedItems, SortedMembers}
use Rattle.jsonptr_tree.specs.TomlValue.{items as items_in, members as members_in, HasSortedKeys}
use Rattle.jsonptr_tree.proofs.ContentMapLemmas.{below_flip, above_more}
use Rattle.jsonptr_value.proofs.OptionLemmas.{if_map, if_then, if_any, if_either}

abbrev SortedElements : toml.Items → Type 0
SortedElements ds = SortedItems (items_in ds)

abbrev SortedTable : Members → Type 0
SortedTable ms = SortedMembers (members_in ms)

-- ---- what a key holds while a text is read

abbrev Sorted : Nodes → Type 0
Sorted ns = SortedTable (close ns)

abbrev SortedNode : Node → Type 0
SortedNode x = HasSortedKeys (close_node x)

abbrev Above : List ℕ → Nodes → Type 0
Above k ns = KeysAbove k (members_in (close ns))

push_sorted : (ds : toml.Items) (d : Data) → SortedElements ds → HasSortedKeys d → SortedElements (push_item ds d)
push_sorted no_items d a h = (h, tt)
push_sorted (item e ds) d a h = (a.0, push_sorted ds d a.1 h)

push_parts : (ds : toml.Items) (d : Data) → SortedElements (push_item ds d) → SortedElements ds × HasSortedKeys d
push_parts no_items d a = (tt, a.0)
push_parts (item e ds) d a = let parts = push_parts ds d a.1 in ((a.0, parts.0), parts.1)

got : (k : List ℕ) (ns : Nodes) → Sorted ns → IfSome (get_node k ns) SortedNode
got k no_nodes a = tt
got k (node l x ns) a = if_either SortedNode (same_key k l) (Some x) (get_node k ns) a.0 (got k ns a.2)

above_replace : (j k : List ℕ) (x : Node) (ns : Nodes) → Above j ns → Above j (replace k x ns)
above_replace j k x no_nodes a = tt
above_replace j k x (node l y ns) a = by_test (above_replace j k x ns a.1) (same_key k l)
  where
    by_test : Above j (replace k x ns) → (b : Bool) → Above j (if b then node l x ns else node l y (replace k x ns))
    by_test later true = (a.0, a.1)
    by_test later false = (a.0, later)

sorted_replace : (k : List ℕ) (x : Node) (ns : Nodes) → Sorted ns → SortedNode x → Sorted (replace k x ns)
sorted_replace k x no_nodes a h = tt
sorted_replace k x (node l y ns) a h = by_test (sorted_replace k x ns a.2 h) (same_key k l)
  where
    by_test : Sorted (replace k x ns) → (b : Bool) → Sorted (if b then node l x ns else node l y (replace k x ns))
    by_test later true = (h, a.1, a.2)
    by_test later false = (a.0, above_replace l k x ns a.1, later)

above_insert : (j k : List ℕ) (x : Node) (ns : Nodes) → slice_cmp nat_cmp j k ≡ Less → Above j ns → Above j (insert k x ns)
above_insert j k x no_nodes h a = (h, tt)
above_insert j k x (node l y ns) h a = by_order (above_insert j k x ns h a.1) (slice_cmp nat_cmp k l)
  where
    by_order : Above j (insert k x ns) → (o : Ordering) → Above j (match_ordering o (node k x (node l y ns)) (node l x ns) (node l y (insert k x ns)))
    by_order later Less = (h, (a.0, a.1))
    by_order later Equal = (a.0, a.1)
    by_order later Greater = (a.0, later)

sorted_insert : (k : List ℕ) (x : Node) (ns : Nodes) → Sorted ns → SortedNode x → Sorted (insert k x ns)
sorted_insert k x no_nodes a h = (h, tt, tt)
sorted_insert k x (node l y ns) a h = by_order (sorted_insert k x ns a.2 h) (slice_cmp nat_cmp k l) refl
  where
    by_order : Sorted (insert k x ns) → (o : Ordering) → slice_cmp nat_cmp k l ≡ o → Sorted (match_ordering o (node k x (node l y ns)) (node l x ns) (node l y (insert k x ns)))
    by_order later Less is = (h, (is, above_more k l (members_in (close ns)) is a.1), a)
    by_order later Equal is = (h, a.1, a.2)
    by_order later Greater is = (a.0, above_insert l k x ns (below_flip k l is) a.1, later)

-- ---- edits

-- the edit leaves sorted keys sorted
abbrev Keeps : Edit → Type 0
Keeps edit = (ns : Nodes) → Sorted ns → IfSome (edit ns) Sorted

in_table : (made : Nodes → Node) → ((ns : Nodes) → Sorted ns → SortedNode (made ns)) → (o : Option Nodes) → IfSome o Sorted → IfSome (option_map made o) SortedNode
in_table made h o a = if_map Sorted SortedNode made h o a

header_sorted : (edit : Edit) → Keeps edit → (x : Node) → SortedNode x → IfSome (header_node edit x) SortedNode
header_sorted edit keeps (value d) a = tt
header_sorted edit keeps (open_table origin inner) a = in_table (open_table origin) (λ ns s. s) (edit inner) (keeps inner a)
header_sorted edit keeps (open_array done last) a =
    let parts = push_parts done (table (close last)) a in
    in_table (open_array done) (λ ns s. push_sorted done (table (close ns)) parts.0 s) (edit last) (keeps last parts.1)

dot_sorted : (edit : Edit) → Keeps edit → (x : Node) → SortedNode x → IfSome (dot_node edit x) SortedNode
dot_sorted edit keeps (value d) a = tt
dot_sorted edit keeps (open_table header inner) a = tt
dot_sorted edit keeps (open_table implicit inner) a = in_table (open_table dotted) (λ ns s. s) (edit inner) (keeps inner a)
dot_sorted edit keeps (open_table dotted inner) a = in_table (open_table dotted) (λ ns s. s) (edit inner) (keeps inner a)
dot_sorted edit keeps (open_array done last) a = tt

module _ (k : List ℕ) (ns : Nodes) (a : Sorted ns) where
  inserted : (made : Nodes → Node) → ((new : Nodes) → Sorted new → SortedNode (made new)) → (o : Option Nodes) → IfSome o Sorted → IfSome (option_map (λ new. insert k (made new) ns) o) Sorted
  inserted made h o s = if_map Sorted Sorted (λ new. insert k (made new) ns) (λ new t. sorted_insert k (made new) ns a (h new t)) o s

  replaced : (o : Option Node) → IfSome o SortedNode → IfSome (option_map (λ new. replace k new ns) o) Sorted
  replaced o s = if_map SortedNode Sorted (λ new. replace k new ns) (λ new t. sorted_replace k new ns a t) o s

  by_header_sorted : (edit : Edit) → Keeps edit → (o : Option Node) → IfSome o SortedNode → IfSome (by_header k edit ns o) Sorted
  by_header_sorted edit keeps None s = inserted (open_table implicit) (λ new t. t) (edit no_nodes) (keeps no_nodes tt)
  by_header_sorted edit keeps (Some x) s = replaced (header_node edit x) (header_sorted edit keeps x s)

  by_dot_sorted : (edit : Edit) → Keeps edit → (o : Option Node) → IfSome o SortedNode → IfSome (by_dot k edit ns o) Sorted
  by_dot_sorted edit keeps None s = inserted (open_table dotted) (λ new t. t) (edit no_nodes) (keeps no_nodes tt)
  by_dot_sorted edit keeps (Some x) s = replaced (dot_node edit x) (dot_sorted edit keeps x s)

along_header_sorted : (path : List (List ℕ)) (edit : Edit) → Keeps edit → Keeps (along_header path edit)
unfolding along_header
along_header_sorted [] edit keeps ns a = keeps ns a
along_header_sorted (k ∷ path) edit keeps ns a = by_header_sorted k ns a (along_header path edit) (along_header_sorted path edit keeps) (get_node k ns) (got k ns a)

along_dots_sorted : (path : List (List ℕ)) (edit : Edit) → Keeps edit → Keeps (along_dots path edit)
unfolding along_dots
along_dots_sorted [] edit keeps ns a = keeps ns a
along_dots_sorted (k ∷ path) edit keeps ns a = by_dot_sorted k ns a (along_dots path edit) (along_dots_sorted path edit keeps) (get_node k ns) (got k ns a)

-- ---- definitions

abbrev SortedDefinition : Definition → Type 0
SortedDefinition (key_value d) = HasSortedKeys d
SortedDefinition std_table = Unit {0}
SortedDefinition array_table = Unit {0}

new_sorted : (what : Definition) → SortedDefinition what → SortedNode (new_node what)
new_sorted (key_value d) h = h
new_sorted std_table h = tt
new_sorted array_table h = (tt, tt)

redefine_sorted : (what : Definition) (x : Node) → SortedNode x → IfSome (redefine what x) SortedNode
redefine_sorted (key_value d) x a = tt
redefine_sorted std_table (value d) a = tt
redefine_sorted std_table (open_table implicit inner) a = a
redefine_sorted std_table (open_table dotted inner) a = tt
redefine_sorted std_table (open_table header inner) a = tt
redefine_sorted std_table (open_array done last) a = tt
redefine_sorted array_table (value d) a = tt
redefine_sorted array_table (open_table origin inner) a = tt
redefine_sorted array_table (open_array done last) a = push_sorted (push_item done (table (close last))) (table no_members) a tt

module _ (k : List ℕ) (what : Definition) (h : SortedDefinition what) where
  found_sorted : (ns : Nodes) → Sorted ns → (o : Option Node) → IfSome o SortedNode → IfSome (at_found k what ns o) Sorted
  found_sorted ns a None s = sorted_insert k (new_node what) ns a (new_sorted what h)
  found_sorted ns a (Some x) s = replaced k ns a (redefine what x) (redefine_sorted what x s)

  at_key_sorted : Keeps (at_key k what)
  unfolding at_key
  at_key_sorted ns a = found_sorted ns a (get_node k ns) (got k ns a)

put_sorted : (key : Key) (d : Data) → HasSortedKeys d → Keeps (put key d)
put_sorted key d h = along_dots_sorted key.0 (at_key key.1 (key_value d)) (at_key_sorted key.1 (key_value d) h)

abbrev SortedRoot : Document → Type 0
SortedRoot doc = Sorted doc.0

with_section : (section : List (List ℕ)) (o : Option Nodes) → IfSome o Sorted → IfSome (option_map (λ root. (root, section)) o) SortedRoot
with_section section o s = if_map Sorted SortedRoot (λ root. (root, section)) (λ root t. t) o s

define_sorted : (doc : Document) (e : Expression) → SortedRoot doc → SortedDefinition e.1 → IfSome (define doc e) SortedRoot
unfolding define
define_sorted doc (key, key_value d) a h = with_section doc.1 _ (along_header_sorted doc.1 (put key d) (put_sorted key d h) doc.0 a)
define_sorted doc (key, std_table) a h = with_section _ _ (along_header_sorted key.0 (at_key key.1 std_table) (at_key_sorted key.1 std_table tt) doc.0 a)
define_sorted doc (key, array_table) a h = with_section _ _ (along_header_sorted key.0 (at_key key.1 array_table) (at_key_sorted key.1 array_table tt) doc.0 a)

-- ---- parsing

-- what is read, and the text after it
abbrev IfRead : {A : Type 0} → Read A → (A → Type 0) → Type 0
IfRead r P = IfSome r (λ p. P p.0)

read_on : {A B : Type 0} (Q : B → Type 0) (r : Option A) (f : A → Option B) → ((x : A) → IfSome (f x) Q) → IfSome (option_and_then f r) Q
read_on Q r f h = if_then (λ _. Unit {0}) Q f (λ x a. h x) r (if_any r)

read_as : {A B : Type 0} (P : A → Type 0) (Q : B → Type 0) (f : A → B) → ((x : A) → P x → Q (f x)) → (r : Read A) → IfRead r P → IfRead (option_map (λ p. (f p.0, p.1)) r) Q
read_as P Q f h r a = if_map (λ p. P p.0) (λ p. Q p.0) (λ p. (f p.0, p.1)) (λ p s. h p.0 s) r a

abbrev ReadsSorted : (List ℕ → Read Data) → Type 0
ReadsSorted val = (text : List ℕ) → IfRead (val text) HasSortedKeys

module _ (inner : List ℕ → Read Data) (reads : ReadsSorted inner) where
  keyval_sorted : (text : List ℕ) → IfRead (keyval inner text) (λ e. HasSortedKeys e.1)
  keyval_sorted text = read_on (λ p. HasSortedKeys p.0.1) (key_equals text) _ (λ k. read_as HasSortedKeys (λ e. HasSortedKeys e.1) (λ d. (k.0, d)) (λ d s. s) (inner k.1) (reads k.1))

  items_sorted : (n : ℕ) (found : toml.Items) (text : List ℕ) → SortedElements found → IfRead (items inner n found text) SortedElements
  unfolding items
  items_sorted zero found text a = tt
  items_sorted (suc n) found text a =
      let start = skip_blank text in
      if_either (λ p. SortedElements p.0) (first start == right_bracket) _ _ a (
      if_then (λ v. HasSortedKeys v.0) (λ p. SortedElements p.0) _
      (λ v s. read_on (λ p. SortedElements p.0) (after_element right_bracket v.1) _ (λ rest. items_sorted n (push_item found v.0) rest (push_sorted found v.0 a s)))
      (inner start) (reads start)
      )

  members_sorted : (n : ℕ) (found : Nodes) (text : List ℕ) → Sorted found → IfRead (members inner n found text) SortedTable
  unfolding members
  members_sorted zero found text a = tt
  members_sorted (suc n) found text a =
      let start = skip_blank text in
      if_either (λ p. SortedTable p.0) (first start == right_brace) _ _ a (
      if_then (λ e. HasSortedKeys e.0.1) (λ p. SortedTable p.0) _
      (λ e s.
      if_then Sorted (λ p. SortedTable p.0) _ (λ more t. read_on (λ p. SortedTable p.0) (after_element right_brace e.1) _ (λ rest. members_sorted n more rest t))
      (put e.0.0 e.0.1 found) (put_sorted e.0.0 e.0.1 s found a))
      (keyval inner start) (keyval_sorted start)
      )

scalar_sorted : (s : Scalar) → HasSortedKeys (scalar_data s)
scalar_sorted (Boolean b) = tt
scalar_sorted (Integer z) = tt
scalar_sorted (Float x) = tt
scalar_sorted (Datetime dt) = tt

atom_sorted : ReadsSorted atom
unfolding atom
atom_sorted text =
    if_either (λ p. HasSortedKeys p.0) (starts_string text) _ _
    (read_as (λ _. Unit {0}) HasSortedKeys toml.string (λ s a. tt) (quoted text) (if_any (quoted text)))
    (read_as (λ _. Unit {0}) HasSortedKeys scalar_data (λ s a. scalar_sorted s) (unquoted text) (if_any (unquoted text)))

val_sorted : (n : ℕ) → ReadsSorted (val n)
unfolding val
val_sorted zero text = atom_sorted text
val_sorted (suc n) text =
    if_either (λ p. HasSortedKeys p.0) (first text == left_bracket) _ _
    (read_as SortedElements HasSortedKeys array (λ ds s. s) _ (items_sorted (val n) (val_sorted n) (length text) no_items (drop 1 text) tt))
    (
    if_either (λ p. HasSortedKeys p.0) (first text == left_brace) _ _
    (read_as SortedTable HasSortedKeys table (λ ms s. s) _ (members_sorted (val n) (val_sorted n) (length text) no_nodes (drop 1 text) tt)) (atom_sorted text)
    )

expression_sorted : (text : List ℕ) → IfRead (expression text) (λ e. SortedDefinition e.1)
unfolding expression
expression_sorted text =
    let P = λ (p : Expression × List ℕ). SortedDefinition p.0.1 in
    if_either P (first text == left_bracket && slice_index text 1 == left_bracket) _ _
    (read_on P (header_key (drop 2 text)) _ (λ k. if_map (λ _. Unit {0}) P (λ rest. ((k.0, array_table), rest)) (λ rest a. tt) (after_byte right_bracket k.1) (if_any (after_byte right_bracket k.1))))
    (
    if_either P (first text == left_bracket) _ _
    (read_as (λ _. Unit {0}) (λ (e : Expression). SortedDefinition e.1) (λ k. (k, std_table)) (λ k a. tt) (header_key (drop 1 text)) (if_any (header_key (drop 1 text))))
    (read_as (λ e. HasSortedKeys e.1) (λ (e : Expression). SortedDefinition e.1) (λ p. (p.0, key_value p.1)) (λ p s. s) (keyval (val recursion_limit) text) (keyval_sorted (val recursion_limit) (val_sorted recursion_limit) text))
    )

line_sorted : (text : List ℕ) → IfRead (line text) (λ e. SortedDefinition e.1)
unfolding line
line_sorted text =
    let P = λ (p : Expression × List ℕ). SortedDefinition p.0.1 in
    if_then P P _ (λ e s. if_either P (ends_line (skip_ws e.1)) (Some e) None s tt) (expression text) (expression_sorted text)

lines_sorted : (n : ℕ) (doc : Document) (text : List ℕ) → SortedRoot doc → IfSome (lines n doc text) SortedRoot
unfolding lines
lines_sorted zero doc text a = tt
lines_sorted (suc n) doc text a =
    let start = skip_blank text in
    if_either SortedRoot (length start == 0) (Some doc) _ a (
    if_then (λ e. SortedDefinition e.0.1) SortedRoot _
    (λ e s. if_then SortedRoot SortedRoot _ (λ next t. lines_sorted n next e.1 t) (define doc e.0) (define_sorted doc e.0 a s)) (line start) (line_sorted start)
    )

document_sorted : (text : List ℕ) → IfSome (parse_document text) SortedTable
unfolding parse_document
document_sorted text = if_map SortedRoot SortedTable (λ doc. close doc.0) (λ doc s. s) _ (lines_sorted (suc (length text)) (no_nodes, []) (skip_bom text) tt)

value_sorted : (text : List ℕ) → IfSome (parse_value text) HasSortedKeys
unfolding parse_value
value_sorted text =
    if_then (λ v. HasSortedKeys v.0) HasSortedKeys _ (λ v s. if_either HasSortedKeys (length v.1 == 0) (Some v.0) None s tt) (val recursion_limit (skip_bom text)) (val_sorted recursion_limit (skip_bom text))

-- the keys of a parsed value are sorted
pub ascends_read : (text : List ℕ) (d : Data) → parse_value text ≡ Some d → HasSortedKeys d
ascends_read text d e = subst (λ (o : Option Data). IfSome o HasSortedKeys) e (value_sorted text)

-- and so are those of a parsed document
pub ascends_read_document : (text : List ℕ) (ms : Members) → parse_document text ≡ Some ms → HasSortedKeys (table ms)
ascends_read_document text ms e = subst (λ (o : Option Members). IfSome o SortedTable) e (document_sorted text)
