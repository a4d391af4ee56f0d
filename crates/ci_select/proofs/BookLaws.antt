-- Legal books are books.
use Rattle.std.proofs.Common.{reverse, subst}
use Rattle.std.proofs.lemmas.List.{reverse-reverse}
use Rattle.std.specs.List.{AllByRecursion}
use Rattle.ci_log.specs.Books.{IsEntry}
use Rattle.ci_select.specs.LegalBooks.{HasShortLog}
use Rattle.ci_select.specs.Laws.{LegalBooksAreBooks}
use Rattle.ci_select.proofs.EntryLists.{all_reversed}
use Rattle.ci_select.proofs.BookEntries.{each_entry}
use Rattle.ci_select.proofs.BookOrder.{entries_in_order}

pub legal_books_are_books : LegalBooksAreBooks
legal_books_are_books instance book of_file short legal = record {
  are_entries =
      subst (AllByRecursion IsEntry) (reverse-reverse book.entries)
      (all_reversed IsEntry (reverse book.entries)
      (each_entry instance of_file (reverse book.entries) legal.entries (all_reversed HasShortLog book.entries short)));
  in_order = entries_in_order instance book legal;
}
