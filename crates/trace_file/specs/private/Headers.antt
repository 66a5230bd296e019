-- A header as the content of a trace with no entries.
use Rattle.trace_file.specs.declared.header.Header.{Header}
use Rattle.trace_file.specs.Content.{Content, begun}

abbrev pub content_of : Header → Content
content_of h = begun h.version h.mask h.n h.digest
