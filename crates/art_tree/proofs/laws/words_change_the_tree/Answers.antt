use Rattle.art_tree.proofs.WordChanges.{add_by_words, drop_by_words, replace_by_words, grow_by_words, shrink_by_words, copy_by_words, fork_by_words, merge_by_words}
use Rattle.art_tree.proofs.laws.words_change_the_tree.Goals as goal

pub returns-clause-add : goal.returns-clause-add
returns-clause-add c = add_by_words

pub returns-clause-drop : goal.returns-clause-drop
returns-clause-drop c = drop_by_words

pub returns-clause-replace : goal.returns-clause-replace
returns-clause-replace c = replace_by_words

pub returns-clause-grow : goal.returns-clause-grow
returns-clause-grow c = grow_by_words

pub returns-clause-shrink : goal.returns-clause-shrink
returns-clause-shrink c = shrink_by_words

pub returns-clause-copy : goal.returns-clause-copy
returns-clause-copy c = copy_by_words

pub returns-clause-fork : goal.returns-clause-fork
returns-clause-fork c = fork_by_words

pub returns-clause-merge : goal.returns-clause-merge
returns-clause-merge c = merge_by_words
