-- A name whose line opens every definition at once: what computes by `refl` says `unfolding everything`.
use Prim.Native.Nat.{ℕ}
use Rattle.base64_rules.specs.Base64.{decode, decode_call, decoding, dense, encode, encode_call, encoding, fours, in_room, is_pad, last_four, letter, one_byte, sextet, sized_input}
use Rattle.base64_rules.specs.Base64.{step_outcome, three_bytes, two_bytes}
use Rattle.binary.specs.Binary.{all_zero, at_most, before_nul, bit_bytes, bit_of, bits_of, bytes_of, can_be_empty, content, content_bytes, count_bytes, count_in, counted, element}
use Rattle.binary.specs.Binary.{elements_bytes, first_bytes, groups, null_form, number, numbers, numbers_in, pack, packed, read_binary, read_binary2, read_flags, shows, truth}
use Rattle.binary.specs.Binary.{unpack, write_binary, write_binary2, zeros}
use Rattle.demands.specs.Cases.{all_pass, came_out, cases, passes, same_answer}
use Rattle.demands.specs.Demands.{output}
use Rattle.demands.specs.Places.{cells_show, content_shows, marks_of, row_shows, shows_at, stream_shows, through_nul}
use Rattle.demands.specs.Tables.{count, lines, row_at, row_length, row_lengths, sum, up_to}
use Rattle.fields.specs.Fields.{at_most_one, attribute_comes, attributes, attributes_f, before_star, begins, bounded_len, declare, exactly_one, field_body, fields_f}
use Rattle.fields.specs.Fields.{fields_then, is_name_byte, judge, kind_of, kinds, len_before, len_of, length_of, name_comes, null_of, null_value, read_attribute, read_field}
use Rattle.fields.specs.Fields.{read_value, read_values, some_name, span_name, span_value, values_of}
use Rattle.number.specs.Number.{decimal, digit, digits, hexadecimal, hexadigit, numeral, of_digits, of_pattern, pattern, ranged, read_integer, shortest, sized, to_digits, with_sign}
use Rattle.rows.specs.Convert.{convert, converting, under_columns}
use Rattle.rows.specs.Stream.{at_end, fitted, flag, flags_left, is_empty, is_set, read, read_cell, read_cells, read_end, read_row, read_start, run, write, write_cell}
use Rattle.rows.specs.Stream.{write_cells, write_end, write_row, write_start, wrote_then}
use Rattle.rows.specs.Sequence.{in_order, row_then, sequence, sequence_f}
use Rattle.fields.specs.Front.{front}
use Rattle.table.specs.Bytes.{after, attach, between, ends, is_white, not_empty, pieces, same, skip_white, tag, words}
use Rattle.table.specs.Cell.{below, empty_is_null, is_element, is_null, is_null_list, null_element, room_fits, same_integer, show, stands_for_null, truth_byte}
use Rattle.table.specs.LineEnds.{feed_first, line_ends}
use Rattle.table.specs.Outcome.{answer_of, at, buffer_of, ending, most_declarations, most_input, rows_done, written}
use Rattle.table.specs.Result.{every}
use Rattle.table.specs.Shape.{half, in_range}
use Rattle.tabledata.specs.TableData.{all_text, bit_letter, bit_text, bit_words, cell_text, characters, close-TD, close-TR, cons_text, count_fits, element_bytes, element_text}
use Rattle.tabledata.specs.TableData.{emitted, escaped, expanded, follow, form_of, forms, integer_word, is_text, line_end, lower, named, names, numeric, open-TD, open-TR, read_text}
use Rattle.tabledata.specs.TableData.{fault_number, spaced, step, tagged, text_cell, text_elements, truth_letter, truth_text, truth_word, write_text}

unfoldable pub everything : ℕ
unfolding
    between is_white same skip_white after ends tag attach pieces not_empty words room_fits stands_for_null null_element same_integer is_null_list show empty_is_null
    is_null below is_element at written rows_done answer_of buffer_of ending most_input most_declarations every half in_range of_digits to_digits
    of_pattern pattern digit hexadigit numeral sized with_sign ranged decimal hexadecimal read_integer digits shortest sextet letter is_pad dense
    one_byte two_bytes three_bytes last_four fours decode encode in_room sized_input step_outcome decoding encoding decode_call encode_call truth
    truth_byte bit_of element number bit_bytes bits_of packed pack all_zero unpack read_flags content_bytes numbers before_nul numbers_in content
    first_bytes at_most counted count_in shows read_binary2 read_binary count_bytes groups bytes_of elements_bytes zeros write_binary2 can_be_empty
    null_form write_binary open-TD close-TD open-TR close-TR names named numeric expanded emitted feed_first line_ends line_end step cons_text follow characters cell_text is_text
    all_text lower truth_letter truth_word bit_letter bit_words integer_word text_elements count_fits fault_number text_cell read_text escaped form_of forms truth_text
    bit_text spaced element_text tagged write_text is_name_byte span_name some_name span_value read_value read_attribute name_comes attribute_comes
    attributes_f attributes values_of at_most_one exactly_one read_values begins field_body read_field kinds kind_of length_of before_star bounded_len
    len_before len_of null_value null_of judge fields_then fields_f declare front under_columns converting convert read_cell flag flags_left read_cells
    is_set read_start read_end read_row is_empty at_end row_then sequence_f sequence read write_cell write_cells write_start write_end write_row fitted
    wrote_then write run cases same_answer came_out passes all_pass output through_nul content_shows cells_show row_shows stream_shows marks_of shows_at
    count up_to row_at lines in_order row_length row_lengths sum element_bytes
everything = 0
