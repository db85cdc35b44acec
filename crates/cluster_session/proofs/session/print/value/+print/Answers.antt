use Rattle.std.proofs.Common.{rules, arith, ◌≡◌, ◌++◌, ◌≤◌, ◌∙◌, ap, sym, subst, length, flat_map, string_bytes, codes, OnOk}
use mathlib.Core.List.{append_assoc}
use Rattle.resp_core.specs.View.{view, kind_view, format_view}
use Rattle.cluster_session.specs.Printed.{answer_words, hex_word}
use Rattle.resp_core.specs.Printed.{format_text, kind_text}
use Rattle.std.proofs.lemmas.List.{take_all}
use Rattle.cluster_session.proofs.Words.{value_words, entry_words, list_words, table_words, each_words_of_values, pair_words_of_values, words-Array, words-Set, words-Map, words-Push, words-Attribute, words-VerbatimString, regroup}
use Rattle.cluster_session.proofs.session.print.value.+print.Goals as goal

pub print_each-returns : goal.print_each-returns
print_each-returns t c =
    let items = c.args.items.now in
    let past : length items ≤ c.loop-item.item-index = omega arith in
    c.loop-item.invariant ∙ ap (λ words. string_bytes c.args.output.now ++ words) (ap (flat_map value_words) (take_all c.loop-item.item-index items past) ∙ each_words_of_values items)

pub print_each_pair-returns : goal.print_each_pair-returns
print_each_pair-returns t c =
    let pairs = c.args.pairs.now in
    let past : length pairs ≤ c.loop-pair.pair-index = omega arith in
    c.loop-pair.invariant ∙ ap (λ words. string_bytes c.args.output.now ++ words) (ap (flat_map entry_words) (take_all c.loop-pair.pair-index pairs past) ∙ pair_words_of_values pairs)

pub print_value-returns-in-Array : goal.print_value-returns-in-Array
print_value-returns-in-Array t c =
    let path = ap (λ vs. codes "array " ++ list_words vs) c.deref-in-Array.ensures.value ∙ words-Array c.in-Array.items ∙ ap (λ v. answer_words (view v)) (sym c.in-Array.is) in
    subst (λ w. OnOk c.print_items.result (string_bytes c.print_items.new.output ≡ string_bytes c.args.output.now ++ w)) path c.print_items.ensures

pub print_value-returns-in-Set : goal.print_value-returns-in-Set
print_value-returns-in-Set t c =
    let path = ap (λ vs. codes "set " ++ list_words vs) c.deref-in-Set.ensures.value ∙ words-Set c.in-Set.items ∙ ap (λ v. answer_words (view v)) (sym c.in-Set.is) in
    subst (λ w. OnOk c.print_items-in-Set.result (string_bytes c.print_items-in-Set.new.output ≡ string_bytes c.args.output.now ++ w)) path c.print_items-in-Set.ensures

pub print_value-returns-in-Map : goal.print_value-returns-in-Map
print_value-returns-in-Map t c =
    let path = ap (λ ps. codes "map " ++ table_words ps) c.deref-in-Map.ensures.value ∙ words-Map c.in-Map.pairs ∙ ap (λ v. answer_words (view v)) (sym c.in-Map.is) in
    subst (λ w. OnOk c.print_pairs.result (string_bytes c.print_pairs.new.output ≡ string_bytes c.args.output.now ++ w)) path c.print_pairs.ensures

pub print_value-returns-in_ok-print_bytes-in-Push : goal.print_value-returns-in_ok-print_bytes-in-Push
print_value-returns-in_ok-print_bytes-in-Push t c =
    let old = string_bytes c.args.output.now in
    let name = hex_word (kind_text (kind_view c.in-Push.kind)) in
    let named : string_bytes c.print_bytes-in-Push.new.output ≡ old ++ (codes "push " ++ name) = search rules in
    let vs = c.deref-in-Push.result.now in
    let path : string_bytes c.print_bytes-in-Push.new.output ++ (codes " " ++ list_words vs) ≡ old ++ answer_words (view c.args.value.now) =
    ap (λ s. s ++ (codes " " ++ list_words vs)) named
    ∙ regroup old (codes "push ") name (codes " " ++ list_words vs)
    ∙ ap (λ items. old ++ (codes "push " ++ (name ++ (codes " " ++ list_words items)))) c.deref-in-Push.ensures.value
    ∙ ap (λ w. old ++ w) (words-Push c.in-Push.kind c.in-Push.items ∙ ap (λ v. answer_words (view v)) (sym c.in-Push.is)) in
    subst (λ s. OnOk c.print_items-in-Push.result (string_bytes c.print_items-in-Push.new.output ≡ s)) path c.print_items-in-Push.ensures

pub print_value-returns-in_ok-print_bytes-in-VerbatimString : goal.print_value-returns-in_ok-print_bytes-in-VerbatimString
print_value-returns-in_ok-print_bytes-in-VerbatimString t c =
    let old = string_bytes c.args.output.now in
    let format = hex_word (format_text (format_view c.in-VerbatimString.format)) in
    let named : string_bytes c.print_bytes-in-VerbatimString.new.output ≡ old ++ (codes "verbatim " ++ format) = search rules in
    let text = c.as_bytes-in-VerbatimString-2.result.now in
    let path : string_bytes c.print_bytes-in-VerbatimString.new.output ++ (codes " " ++ hex_word text) ≡ old ++ answer_words (view c.args.value.now) =
    ap (λ s. s ++ (codes " " ++ hex_word text)) named
    ∙ regroup old (codes "verbatim ") format (codes " " ++ hex_word text)
    ∙ ap (λ bytes. old ++ (codes "verbatim " ++ (format ++ (codes " " ++ hex_word bytes)))) c.as_bytes-in-VerbatimString-2.ensures.value
    ∙ ap (λ w. old ++ w) (words-VerbatimString c.in-VerbatimString.format c.in-VerbatimString.text ∙ ap (λ v. answer_words (view v)) (sym c.in-VerbatimString.is)) in
    subst (λ s. OnOk c.print_bytes-in-VerbatimString-2.result (string_bytes c.print_bytes-in-VerbatimString-2.new.output ≡ s)) path c.print_bytes-in-VerbatimString-2.ensures

pub print_value-returns-in_ok-push_str-in-Attribute : goal.print_value-returns-in_ok-push_str-in-Attribute
print_value-returns-in_ok-push_str-in-Attribute t c =
    let old = string_bytes c.args.output.now in
    let ps = c.deref-in-Attribute.result.now in
    let inner = c.deref-in-Attribute-2.result.now in
    let inner_words = answer_words (view inner) in
    let before = string_bytes c.print_pairs-in-Attribute.new.output in
    let table : before ≡ old ++ (codes "attribute " ++ table_words ps) = search rules in
    let spaced : string_bytes c.push_str-in-Attribute.new.self ≡ before ++ codes " " = search rules in
    let path : string_bytes c.push_str-in-Attribute.new.self ++ inner_words ≡ old ++ answer_words (view c.args.value.now) =
    ap (λ s. s ++ inner_words) spaced
    ∙ append_assoc before (codes " ") inner_words
    ∙ ap (λ s. s ++ (codes " " ++ inner_words)) table
    ∙ regroup old (codes "attribute ") (table_words ps) (codes " " ++ inner_words)
    ∙ ap (λ items. old ++ (codes "attribute " ++ (table_words items ++ (codes " " ++ inner_words)))) c.deref-in-Attribute.ensures.value
    ∙ ap (λ v. old ++ (codes "attribute " ++ (table_words c.in-Attribute.attributes.items ++ (codes " " ++ answer_words (view v))))) c.deref-in-Attribute-2.ensures
    ∙ ap (λ w. old ++ w) (words-Attribute c.in-Attribute.inner c.in-Attribute.attributes ∙ ap (λ v. answer_words (view v)) (sym c.in-Attribute.is)) in
    subst (λ s. OnOk c.print_value.result (string_bytes c.print_value.new.output ≡ s)) path c.print_value.ensures
